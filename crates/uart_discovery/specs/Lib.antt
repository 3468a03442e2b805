pub mod Bytes
pub mod Acpi
pub mod Spcr
pub mod Numbers
pub mod CommandLine
pub mod Pci
pub mod Tree
pub mod Dbg2
