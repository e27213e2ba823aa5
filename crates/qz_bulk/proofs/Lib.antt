pub mod BulkLemmas
