mod FaultLemmas
mod NoTextLemmas
mod PageLemmas
