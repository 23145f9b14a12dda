-- Programs on their input, and the frame program as one.
pub mod Stream
pub mod Frames
