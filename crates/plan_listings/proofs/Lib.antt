mod LineLemmas
mod SortLemmas
