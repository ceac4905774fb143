-- Laws of the definitions, with their proofs.
pub mod Numbers
pub mod SizedOrders
pub mod TextLines
