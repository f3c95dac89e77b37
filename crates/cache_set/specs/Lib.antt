pub mod CacheSet
pub mod Cache
pub mod Bringing
