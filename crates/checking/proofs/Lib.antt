mod Round
mod Lacking
mod Listed
