-- What becomes of an event.
pub mod Given
-- What an event that is taken does, and many in turn.
pub mod Told
-- The answers that are held, and the entries of their events.
pub mod HeldAnswers
-- What contracts see of a gateway.
pub mod Kept
-- What a sync of the answers that are held comes to.
pub mod Syncing
-- What an event that is taken does to a gateway, and why one isn't taken.
pub mod Taking
-- What the two files stand for between calls.
pub mod Standing
-- How far a run has come.
pub mod Running
-- One life after another, each over what the one before may have left.
pub mod Lives
-- Which state a gateway begins with that is opened again.
pub mod Restarts
-- That the calls make such lives.
pub mod Living
