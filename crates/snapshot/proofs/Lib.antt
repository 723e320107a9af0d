pub mod Walks
pub mod Reading
pub mod MetaSection
pub mod Once
