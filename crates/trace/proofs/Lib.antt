pub mod Scan
mod Feeds
