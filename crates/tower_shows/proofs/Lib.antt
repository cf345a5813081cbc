pub mod Likes
pub mod Rights
pub mod Bytes
pub mod Firsts
pub mod Tells
pub mod Stays
pub mod Telling
