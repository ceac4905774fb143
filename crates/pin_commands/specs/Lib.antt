pub mod PinParts
