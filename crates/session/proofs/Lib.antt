-- The run of a start and of an advance.
pub mod Alls
pub mod Goes
pub mod Beginning
pub mod Forwarding
pub mod Methods
