pub mod Lists
pub mod DomainLaws
pub mod DoorLaws
pub mod Receipt
pub mod SentLaws
pub mod PlaceLaws
