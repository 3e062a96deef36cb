use Rattle.def_slice.proofs.BegunLemmas.{is_begun_of, begun_is_open, begun_whole, begun_numbers}
use Rattle.def_slice.proofs.opened.a_begun_promotion_is_open.Goals as goal

pub returns : goal.returns
returns c = record { begun = is_begun_of; ok = begun_is_open; whole = begun_whole; numbers = begun_numbers }
