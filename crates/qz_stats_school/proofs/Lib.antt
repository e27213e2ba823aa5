pub mod StatsLemmas
