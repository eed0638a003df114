pub mod Clients
pub mod Told
pub mod Serving
pub mod Releasing
