mod AskingLemmas
mod OpeningLemmas
mod PublicationLemmas
