-- PINs in a memory: their pages, and the postconditions of calls. The laws are in a module of their own.
pub mod Pages
pub mod Trials
pub mod RenewalParts
pub mod PutParts
pub mod laws
