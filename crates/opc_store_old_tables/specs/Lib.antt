pub mod Tables
pub mod Old
pub mod Read
pub mod MigrationEdits
