-- Entries of items that are pushed one after another.
use Rattle.std.proofs.Common.{◌≡◌, ◌<◌, ◌+◌, ℕ, true, Bool, List, [], ◌∷◌, ◌++◌, length, take, drop, get_or, Option, Some, None, IsSome, refl, sym, ap, ◌∙◌, subst, arith, true≢false}
use Rattle.std.specs.List.{list_all}
use Rattle.std.specs.Ordering.{is_lt}
use Rattle.std.proofs.lemmas.Bool.{and_parts, and_from}
use Rattle.std.proofs.lemmas.List.{append_assoc, take-append-drop, length-map, get_or-map}
use Rattle.strat_arena.specs.ArenaView.{KeyValue}
use Rattle.strat_arena.specs.Items.{entry_of_item, entries_of}
use Rattle.strat_arena.specs.declared.items.Item.{Item}
use Rattle.strat_base.specs.Entries.{Entry, is_ascending}
use Rattle.strat_base.specs.Order.{entry_cmp}
use Rattle.def_crash.specs.Blocks.{TearsBlocks}
use Rattle.def_crash.specs.Image.{Image}
use Rattle.def_crash.specs.Moments.{DiskView, Exposes, Passes}
use Rattle.strat_extent.specs.Blocks.{SpaceView, is_free}
use Rattle.strat_array.specs.Progress.{ArrayProgress}
use Rattle.strat_array.specs.Pushed.{IsEndOf, IsPushed, with_entry}
use Rattle.strat_array.proofs.StayLemmas.{more_end, end_ascends}
use Rattle.strat_promote.specs.Spaces.{TakesMore}
use Rattle.strat_promote.proofs.SpacesLemmas.{takes_trans, torn_on}
use Rattle.strat_promote.proofs.ZeroLemmas.{front_next}

-- these entries were pushed so far
pub record ArePushed (old now : DiskView) (s t : SpaceView) (was is : ArrayProgress) (entries : List Entry) : Type 0 where
  pub id : is.id ≡ was.id
  pub takes : TakesMore s t was.extents is.extents
  pub torn : TearsBlocks (is_free s) old now
  pub end : IsEndOf is.pending (was.pending ++ entries)
  pub pushed : (f g : Image) (es : List Entry) → Exposes old f → Exposes now g → IsPushed f was es → IsPushed g is (es ++ entries)

-- a disk that exposed its content does so after what passed
pub still_told : (old mid : DiskView) (f : Image) → Passes old mid → Exposes old f → (g : Image) × Exposes mid g
still_told old mid f passes told = given mid.content (passes.exposed (told_some old.content told))
  where
    told_some : (o : Option Image) → o ≡ Some f → IsSome o
    told_some None e = absurd (cc)
    told_some (Some x) e = refl

    given : (o : Option Image) → IsSome o → (g : Image) × (o ≡ Some g)
    given None some = absurd (true≢false (sym some))
    given (Some g) some = (g, refl)

-- one more
pub one_more_pushed : (old mid now : DiskView) (s t u : SpaceView) (was w is : ArrayProgress) (entries more : List Entry) (e : Entry) → ArePushed old mid s t was w entries
    → entries ++ e ∷ [] ≡ more → is.id ≡ w.id → TakesMore t u w.extents is.extents → TearsBlocks (is_free t) mid now → is.pending ≡ with_entry w.pending e
    → ((f g : Image) (es : List Entry) → Exposes mid f → Exposes now g → IsPushed f w es → IsPushed g is (es ++ e ∷ []))
    → ArePushed old now s u was is more
one_more_pushed old mid now s t u was w is entries more e before all id takes torn pending pushes = record {
  id = id ∙ before.id;
  takes = takes_trans s t u was.extents w.extents is.extents before.takes takes;
  torn = torn_on s t was.extents w.extents old mid now before.takes before.torn torn;
  end = subst (λ (l : List Entry). IsEndOf l (was.pending ++ more)) (sym pending)
      (subst (λ (l : List Entry). IsEndOf (with_entry w.pending e) l) (append_assoc was.pending entries (e ∷ []) ∙ ap (λ (l : List Entry). was.pending ++ l) all)
      (more_end (was.pending ++ entries) w.pending e before.end));
  pushed = λ f g es told tells pushed.
      let between = still_told old mid f before.torn.time told in
      subst (λ (l : List Entry). IsPushed g is l) (append_assoc es entries (e ∷ []) ∙ ap (λ (l : List Entry). es ++ l) all)
      (pushes between.0 g (es ++ entries) between.1 tells (before.pushed f between.0 es told between.1 pushed));
}

-- what entries that ascend begin with ascends
all_front : (p : Entry → Bool) (xs ys : List Entry) → list_all p (xs ++ ys) ≡ true → list_all p xs ≡ true
all_front p [] ys all = refl
all_front p (x ∷ xs) ys all =
    let both = and_parts (p x) (list_all p (xs ++ ys)) all in and_from (p x) (list_all p xs) both.0 (all_front p xs ys both.1)

front_ascends : (xs ys : List Entry) → is_ascending (xs ++ ys) ≡ true → is_ascending xs ≡ true
front_ascends [] ys up = refl
front_ascends (x ∷ xs) ys up =
    let before : (Entry → Bool) = λ later. is_lt (entry_cmp x.key x.version later.key later.version) in
    let both = and_parts (list_all before (xs ++ ys)) (is_ascending (xs ++ ys)) up in
    and_from (list_all before xs) (is_ascending xs) (all_front before xs ys both.0) (front_ascends xs ys both.1)

-- the entry of an item goes on with those of the items before it
pub item_next : (pairs : List KeyValue) (items : List Item) (i : ℕ) (d : Item) (e : Entry) → i < length items → e ≡ entry_of_item pairs (get_or items i d)
    → take i (entries_of pairs items) ++ e ∷ [] ≡ take (i + 1) (entries_of pairs items)
item_next pairs items i d e lt is =
    front_next (entries_of pairs items) i e (omega (arith, lt, length-map items (entry_of_item pairs))) (is ∙ sym (get_or-map (entry_of_item pairs) items i d e lt))

-- what is in no block ascends with it
pub pending_rises : (pending before entries : List Entry) (i : ℕ) (e : Entry) → is_ascending (before ++ entries) ≡ true → take i entries ++ e ∷ [] ≡ take (i + 1) entries
    → IsEndOf pending (before ++ take i entries) → is_ascending (pending ++ e ∷ []) ≡ true
pending_rises pending before entries i e up next ends =
    end_ascends (before ++ take i entries) pending e ends
    (ap is_ascending (append_assoc before (take i entries) (e ∷ []) ∙ ap (λ (l : List Entry). before ++ l) next)
    ∙ front_ascends (before ++ take (i + 1) entries) (drop (i + 1) entries)
    (ap is_ascending (append_assoc before (take (i + 1) entries) (drop (i + 1) entries) ∙ ap (λ (l : List Entry). before ++ l) (take-append-drop (i + 1) entries)) ∙ up))
