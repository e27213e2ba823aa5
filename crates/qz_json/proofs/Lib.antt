mod ReplyLemmas
mod WordLemmas
mod ArgumentLemmas
mod BodyLemmas
