pub mod Ways
pub mod Turning
pub mod Walks
pub mod Circuits
pub mod Cycles
pub mod Faces
