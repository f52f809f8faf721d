mod Lines
mod Octal
