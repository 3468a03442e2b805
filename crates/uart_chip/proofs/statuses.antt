-- What the line status and the modem status report.
pub mod Status
pub mod Reports
pub mod LinesChanged
pub mod StatusLaws
