pub mod Original
