-- What is known of the head of a store that was read.
use Rattle.std.proofs.Common.{◌≡◌, ◌≤◌, ℕ, List, Option, None, Some, true, refl, sym, ap, subst, arith}
use Rattle.std.specs.Option.{option_map, option_to_list}
use Rattle.std.proofs.lemmas.Bool.{leb-true}
use Rattle.def_bytes.specs.Manifest.{is_lawful_manifest}
use Rattle.def_bytes.proofs.ManifestLemmas.{pass_at}
use Rattle.def_recovery.specs.Head.{Head, head_updates, head_changes}
use Rattle.def_recovery.proofs.OpeningLemmas.{manifest_tests}
use Rattle.def_promote.proofs.PaidLemmas.{updates_few}
use Rattle.def_slice.specs.Lists.{HoldLists}
use Rattle.strat_arena.specs.declared.pool.PoolEntry.{PoolEntry}
use Rattle.strat_base.specs.Change.{Change}
use Rattle.strat_base.specs.Entries.{Entry}
use Rattle.strat_cursor.specs.Ranges.{sealed_held}
use Rattle.strat_level.specs.Memtable.{ItemList, entries_held}
use Rattle.def_bytes.specs.Layout.{newest_format}

-- no more updates were accepted than changes
pub fewer_updates : (h : Head) → is_lawful_manifest newest_format h.manifest ≡ true → head_updates h ≤ head_changes h
fewer_updates h lawful = omega (
  arith,
  leb-true h.manifest.updates h.manifest.changes (pass_at (manifest_tests newest_format h.manifest) 1 lawful),
  updates_few h.journal,
)

-- what is sealed, as a list of one or none
sealed_is : (pool : List PoolEntry) (lists : Option ItemList) (sealed : Option (List Entry)) → sealed_held pool lists ≡ option_to_list sealed → option_map (entries_held pool) lists ≡ sealed
sealed_is pool None None e = refl
sealed_is pool None (Some entries) e = absurd (cc)
sealed_is pool (Some list) None e = absurd (cc)
sealed_is pool (Some list) (Some entries) e = let same : entries_held pool list ≡ entries = cc in ap (λ (es : List Entry). Some es) same

-- the lists that are lent hold what the journal says
pub lists_lent : (mem : ℕ) (journal : List Change) (pool : List PoolEntry) (zero : ItemList) (lists : Option ItemList) (entries : List Entry) (sealed : Option (List Entry)) (spare : ℕ) → entries_held pool zero ≡ entries
    → sealed_held pool lists ≡ option_to_list sealed → HoldLists mem journal entries sealed spare → HoldLists mem journal (entries_held pool zero) (option_map (entries_held pool) lists) spare
lists_lent mem journal pool zero lists entries sealed spare same beside hold =
    let there : sealed ≡ option_map (entries_held pool) lists = sym (sealed_is pool lists sealed beside) in
    subst (λ (es : List Entry). HoldLists mem journal es (option_map (entries_held pool) lists) spare) (sym same)
    (subst (λ (o : Option (List Entry)). HoldLists mem journal entries o spare) there hold)
