pub mod Image
pub mod Text
pub mod Listing
pub mod Reports
pub mod Script
pub mod Ends
pub mod Steps
