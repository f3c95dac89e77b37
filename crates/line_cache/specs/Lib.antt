pub mod LineCache
pub mod Moving
pub mod WriteBack
