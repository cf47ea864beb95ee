pub mod Gathering
pub mod Flagging
