-- The disk before a publication that is written out.
use Rattle.std.proofs.Common.{◌≡◌, ◌≤◌, ◌^◌, ◌≢◌, ◌<◌, ℕ, zero, suc, false, inl, inr, [], ◌∷◌, Some, None, refl, sym, ap, ◌∙◌, subst, arith, true≢false}
use Rattle.std.proofs.lemmas.Bool.Decides.{nat_tests}
use Rattle.strat_base.specs.Change.{Put, Clone}
use Rattle.strat_base.specs.EntryBytes.{entry_in}
use Rattle.strat_base.specs.Numbers.{number, be}
use Rattle.strat_base.specs.Tree.{climb}
use Rattle.strat_base.specs.Change.{change_in}
use Rattle.def_crash.specs.Image.{window, over}
use Rattle.def_bytes.specs.Arrays.{entries_on}
use Rattle.def_bytes.specs.Block.{block_in, block_bytes, entries_in}
use Rattle.def_bytes.specs.Chain.{link_bytes, HoldsChain}
use Rattle.def_bytes.specs.Chained.{chain_from}
use Rattle.def_bytes.specs.Manifest.{all_pass, read_number, read_items, read_extent, read_array, read_level, read_mark, read_only, read_manifest, manifest_in, manifest_bytes}
use Rattle.def_bytes.specs.Records.{records}
use Rattle.def_bytes.specs.SuperBlock.{IsLawful, slot_of, slot_in, zeros}
use Rattle.def_promote.specs.Promoted.{SaysTheSame}
use Rattle.def_recovery.specs.Disks.{formatted}
use Rattle.def_state.specs.Sound.{IsSound}
use Rattle.def_state.specs.State.{State, deep, map_at}
use Rattle.def_state.specs.Worked.{array_of, first_level, chain}
use Rattle.strat_base.specs.Samples.{says}
use Rattle.strat_model.specs.Table.{Table}
use Rattle.def_recovery.specs.Opening.{reads_as}
use Rattle.def_state.proofs.BreachLemmas.{sound_from_none}
use Rattle.def_publish.specs.Contents.{contents_state}
use Rattle.def_publish.specs.Standing.{LiesIn, ReadsAs, ShowsTable, AreFree, ContentsStand}
use Rattle.def_publish.specs.Next.{IsSoundNext, MayBeNext, HasManifest, IsPromotion}
use Rattle.def_publish.specs.Publication.{Succeeds, IsPrepared}
use Rattle.def_publish.specs.Worked.{resting, new_contents, chain_logged, chain_next, chain_again, chain_made, prepared_disk, published_disk, at_generation, free_but, miscounted}
use Rattle.def_publish.proofs.ListLemmas.{contained_among}

formatted_reads : ReadsAs formatted new_contents
unfolding number be window over slot_of slot_in zeros change_in all_pass read_number read_items read_extent read_array read_level read_mark read_only read_manifest manifest_in manifest_bytes chain_from records
formatted_reads = record {
  newest = refl;
  lies = record { chain = refl; belonging = refl; arrays = refl };
  logged = record { logged = []; read = refl; accepted = refl };
}

prepared_reads : ReadsAs prepared_disk chain_logged
unfolding number be window over slot_of slot_in zeros change_in all_pass read_number read_items read_extent read_array read_level read_mark read_only read_manifest manifest_in manifest_bytes chain_from records
prepared_reads = record {
  newest = refl;
  lies = record { chain = refl; belonging = refl; arrays = refl };
  logged = record {
    logged = record { change = Clone 0; block = 2 } ∷ record { change = Put 1 (97 ∷ []) (49 ∷ []); block = 2 } ∷ record { change = Clone 1; block = 2 } ∷ record { change = Clone 2; block = 2 } ∷ [];
    read = refl;
    accepted = refl;
  };
}

next_lies : LiesIn prepared_disk chain_next
unfolding number be window over slot_of slot_in zeros change_in all_pass read_number read_items read_extent read_array read_level read_mark read_only read_manifest manifest_in manifest_bytes chain_from records block_in block_bytes entry_in entries_in link_bytes entries_on
next_lies = record { chain = refl; belonging = refl; arrays = refl }

published_reads : ReadsAs published_disk chain_next
unfolding number be window over slot_of slot_in zeros change_in all_pass read_number read_items read_extent read_array read_level read_mark read_only read_manifest manifest_in manifest_bytes chain_from records block_in block_bytes entry_in entries_in link_bytes entries_on
published_reads = record {
  newest = refl;
  lies = record { chain = refl; belonging = refl; arrays = refl };
  logged = record { logged = []; read = refl; accepted = refl };
}

formatted_shut : formatted 16384 ≢ 0xa7
unfolding over
formatted_shut e = let bad : 0 ≡ 0xa7 = e in omega (arith, bad)

prepared_shut : prepared_disk 16384 ≢ 0xa7
unfolding over be manifest_bytes zeros
prepared_shut e = let bad : 0 ≡ 0xa7 = e in omega (arith, bad)

new_sound : IsSound (contents_state new_contents)
unfolding climb deep
new_sound = sound_from_none (contents_state new_contents) (record { tree = refl; pruned = refl; numbered = refl; accepted = refl; fits = refl }) refl

logged_sound : IsSound (contents_state chain_logged)
unfolding climb deep
logged_sound = sound_from_none (contents_state chain_logged) (record { tree = refl; pruned = refl; numbered = refl; accepted = refl; fits = refl }) refl

next_sound : IsSound (contents_state chain_next)
unfolding climb deep
next_sound = sound_from_none (contents_state chain_next) (record { tree = refl; pruned = refl; numbered = refl; accepted = refl; fits = refl }) refl

next_says : SaysTheSame (contents_state chain_logged) (contents_state chain_next)
unfolding climb
next_says = record {
  mem = refl;
  changes_max = refl;
  versions_max = refl;
  versions = refl;
  marks = refl;
  maps = each;
  updates = refl;
  changes = refl;
}
  where
    each : (v : ℕ) → v < 4 → map_at (contents_state chain_next) v ≡ map_at (contents_state chain_logged) v
    each zero lt = refl
    each (suc zero) lt = refl
    each (suc (suc zero)) lt = refl
    each (suc (suc (suc zero))) lt = refl
    each (suc (suc (suc (suc v)))) lt = absurd (omega (arith, lt))

chain_lawful : (generation : ℕ) → 1 ≤ generation → generation < 2 ^ 64 → IsLawful (at_generation generation chain_next).sb
chain_lawful generation least most = record {
  format_least = omega arith;
  format_most = omega arith;
  generation_least = least;
  generation_fits = most;
  manifest_least = omega arith;
  manifest_most = omega arith;
  length_least = omega arith;
  length_fits = omega arith;
  region_most = omega arith;
  mem_least = omega arith;
  mem_most = omega arith;
  changes_least = omega arith;
  changes_most = omega arith;
  versions_least = omega arith;
  versions_most = omega arith;
}

pub next_succeeds : (generation : ℕ) → 1 < generation → generation < 2 ^ 64 → Succeeds chain_logged (at_generation generation chain_next)
next_succeeds generation later most = record {
  lawful = chain_lawful generation (omega (arith, later)) most;
  slot = refl;
  later = later;
  region = refl;
  journal = refl;
  sound = next_sound;
  says = next_says;
}

-- without a change between: the same state again, in the other slot and with the other region
pub again_succeeds : Succeeds chain_next chain_again
again_succeeds = record {
  lawful = record {
    format_least = omega arith;
    format_most = omega arith;
    generation_least = omega arith;
    generation_fits = omega arith;
    manifest_least = omega arith;
    manifest_most = omega arith;
    length_least = omega arith;
    length_fits = omega arith;
    region_most = omega arith;
    mem_least = omega arith;
    mem_most = omega arith;
    changes_least = omega arith;
    changes_most = omega arith;
    versions_least = omega arith;
    versions_most = omega arith;
  };
  slot = refl;
  later = omega arith;
  region = refl;
  journal = refl;
  sound = next_sound;
  says = record {
    mem = refl;
    changes_max = refl;
    versions_max = refl;
    versions = refl;
    marks = refl;
    maps = λ v lt. refl;
    updates = refl;
    changes = refl;
  };
}

pub new_stands : ContentsStand (resting formatted) new_contents
new_stands = record {
  content = formatted;
  exposed = refl;
  left = refl;
  reads = λ c is. subst (λ f. ReadsAs f new_contents) (sym is) formatted_reads;
  slots = λ c is. record { byte = λ i low high. λ j. is j i };
  shut = λ c is few up. formatted_shut ((λ j. sym is j 16384) ∙ up);
  sound = new_sound;
}

pub logged_stands : ContentsStand (resting prepared_disk) chain_logged
logged_stands = record {
  content = prepared_disk;
  exposed = refl;
  left = refl;
  reads = λ c is. subst (λ f. ReadsAs f chain_logged) (sym is) prepared_reads;
  slots = λ c is. record { byte = λ i low high. λ j. is j i };
  shut = λ c is few up. prepared_shut ((λ j. sym is j 16384) ∙ up);
  sound = logged_sound;
}

pub next_prepared : IsPrepared (resting prepared_disk) chain_logged chain_next
next_prepared = record {
  stands = logged_stands;
  next = next_succeeds 2 (omega arith) (omega arith);
  lies = λ c is. subst (λ f. LiesIn f chain_next) (sym is) next_lies;
}

-- blocks of the journal are not free
behind_journal : (first second b : ℕ) → b < 6 → free_but first second b ≡ false
behind_journal first second b lt = grind (arith, nat_tests)

pub free_before : AreFree (free_but 6 6) chain_logged
free_before = record {
  behind = behind_journal 6 6;
  unnamed = λ b named. elim (contained_among (6 ∷ []) b named) [
    | inl six ↦ ap (free_but 6 6) six
    | inr none ↦ absurd none
  ];
}

pub free_after : AreFree (free_but 7 8) chain_next
free_after = record {
  behind = behind_journal 7 8;
  unnamed = λ b named. elim (contained_among (8 ∷ 7 ∷ []) b named) [
    | inl eight ↦ ap (free_but 7 8) eight
    | inr (inl seven) ↦ ap (free_but 7 8) seven
    | inr (inr none) ↦ absurd none
  ];
}

next_follows : IsSoundNext prepared_disk prepared_disk chain_logged chain_next chain_made [] []
next_follows = record {
  reads = prepared_reads;
  next = record {
    slot = refl;
    generation = refl;
    region = refl;
    promoted = record { mem = refl; changes_max = refl; versions_max = refl; format = refl; parents = refl; marks = refl; compacted = refl; updates = refl; changes = refl; journal = refl };
    written = refl;
    next_array = refl;
    levels_were = refl;
    levels_are = refl;
  };
  arrays = next_lies.arrays;
  was_sound = logged_sound;
  is_sound = next_sound;
  fresh = record {
    numbered = refl;
    ordered = refl;
    each = (record { tagged = omega arith; rising = refl; counted = omega arith; lawful = refl; apart = refl }, tt);
  };
}

-- the next contents, as they are computed
pub next_computed : MayBeNext prepared_disk prepared_disk chain_logged chain_next chain_made [] []
next_computed = record { follows = next_follows; few = refl }

-- and those without a change between
pub again_computed : MayBeNext published_disk published_disk chain_next chain_again None [] chain_next.chained.manifest.levels
again_computed = record {
  follows = record {
    reads = published_reads;
    next = record {
      slot = refl;
      generation = refl;
      region = refl;
      promoted = record { mem = refl; changes_max = refl; versions_max = refl; format = refl; parents = refl; marks = refl; compacted = refl; updates = refl; changes = refl; journal = refl };
      written = refl;
      next_array = refl;
      levels_were = refl;
      levels_are = refl;
    };
    arrays = published_reads.lies.arrays;
    was_sound = next_sound;
    is_sound = next_sound;
    fresh = record { numbered = refl; ordered = refl; each = tt };
  };
  few = refl;
}

pub next_promoted : IsPromotion prepared_disk chain_logged chain_next chain_made []
next_promoted = record {
  fresh = chain_next.levels;
  lies = prepared_reads.lies;
  read = next_lies.arrays;
  levels = refl;
  sound = next_sound;
  says = next_says;
}

pub next_written : HasManifest prepared_disk chain_next
unfolding be window over zeros manifest_bytes link_bytes HoldsChain
next_written = record {
  others = [];
  blocks = refl;
  size = refl;
  chain = record {
    holds = (refl, refl);
    count = refl;
    named = ((omega arith, omega arith), tt);
    distinct = λ i j d before within. absurd (omega (arith, before, within));
  };
}

-- the state that the disk with a wrong count reads as
abbrev wrong_state : State
wrong_state = record chain { levels = first_level 4 (array_of 1 (1 ∷ 2 ∷ 3 ∷ []) (says 97 1 49 ∷ []) 2 1 1 ∷ []) }

wrong_read : reads_as miscounted ≡ Some wrong_state
unfolding number be window over slot_of slot_in zeros change_in all_pass read_number read_items read_extent read_array read_level read_mark read_only read_manifest manifest_in manifest_bytes chain_from records block_in block_bytes entry_in entries_in link_bytes entries_on
wrong_read = refl

pub no_table : (t : Table) → ShowsTable miscounted t → ⊥
no_table t shows =
    let e : Some wrong_state ≡ Some shows.state = sym wrong_read ∙ shows.reads in
    let same : wrong_state ≡ shows.state = cc in
    let sound : IsSound wrong_state = subst IsSound (sym same) shows.sound in
    true≢false (sym sound.described)
