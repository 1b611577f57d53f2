pub mod Bytes
pub mod Tree
pub mod Spelling
pub mod Class
pub mod Normal
pub mod Recogniser
pub mod Answer
pub mod Laws
