pub mod Printed
pub mod Printing
pub mod Sent
pub mod Kept
