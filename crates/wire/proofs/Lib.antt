pub mod Parts
pub mod Numbers
pub mod Spans
pub mod Bytes
pub mod Reading
