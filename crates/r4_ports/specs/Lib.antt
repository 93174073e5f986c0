-- The definitions: what a shelf and a sink tell, and how a text is written.
pub mod Told
pub mod Writing
-- The states of the shelves and sinks in memory.
pub mod FileList
pub mod Numbered
pub mod SureState
pub mod SinkState
pub mod PutLog
pub mod CallLog
pub mod ShelfState
-- What the contracts of private functions, and the proof that a shelf is known by its state, speak of.
pub mod Spans
pub mod ShelfCode
