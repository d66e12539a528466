pub mod StoreTablesLemmas
mod Older
mod Refusing
mod StoreLawsLemmas
