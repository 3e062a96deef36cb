-- What was written of a walk, page by page.
use Rattle.std.proofs.Common.{◌≡◌, ◌<◌, ℕ, ◌+◌, ◌%◌, Bool, true, false, List, [], ◌++◌, length, take, Option, Some, refl, sym, ap, ◌∙◌, subst, arith, append_assoc}
use Rattle.std.specs.Prelude.{Err, IsErrOf}
use Rattle.std.specs.List.{flat_map}
use Rattle.std.proofs.lemmas.List.{append-nil, length-append}
use Rattle.std.proofs.Math.Seq.{take-append-add}
use Rattle.def_bulk.specs.Exporting.{exported, put_bodies}
use Rattle.def_crash.specs.Image.{Image}
use Rattle.strat_array.specs.Kept.{Blocks}
use Rattle.strat_base.specs.declared.descriptors.ArrayDesc.{ArrayDesc}
use Rattle.strat_base.specs.declared.failures.Fault.{Fault}
use Rattle.strat_base.specs.declared.failures.Fault.TheVariants as fault
use Rattle.strat_cursor.specs.Looking.{AreCachedFrom}
use Rattle.strat_cursor.specs.Walking.{GivesPage, HasPairsLeft}
use Rattle.strat_cursor.specs.declared.walk.Walk.{Walk}
use Rattle.strat_io.specs.Streams.{Appends}
use Rattle.strat_model.specs.Pairs.{Pairs}
use Rattle.strat_model.specs.Stream.{frame}
use Rattle.strat_model.specs.Faults.{broken_by}
use Rattle.strat_model.specs.declared.ended.Ended.TheVariants as ended
use Rattle.strat_bulk.specs.Ending.{AreTold, WritesPairs}
use Rattle.strat_bulk.specs.Runs.{AreLawful}
use Rattle.strat_bulk.proofs.FramingLemmas.{frames_then, lawful_both}

-- a sink's bytes, and others behind them
pub appends_then : (a b c : Option (List ℕ)) (x y : List ℕ) → Appends a b x → Appends b c y → Appends a c (x ++ y)
appends_then a b c x y first second = record {
  exposed = λ held is. second.exposed (held ++ x) (first.exposed held is) ∙ ap (λ (l : List ℕ). Some l) (append_assoc held x y);
  hidden = λ none. second.hidden (first.hidden none);
}

-- a sink that was given nothing
pub appends_none : (a : Option (List ℕ)) → Appends a a []
appends_none a = record { exposed = λ held is. is ∙ ap (λ (l : List ℕ). Some l) (sym (append-nil held)); hidden = λ none. none }

-- these pairs were written, and of what the walk had left the others are left
pub record PagesSoFar (content : Option Image) (held now : Option (List ℕ)) (first walk : Walk) (c d : Blocks) (tag : ℕ) : Type 0 where
  pub told : Pairs
  pub wrote : Appends held now (exported told)
  pub lawful : AreLawful told
  pub next : (1 + length told) % 4294967296 ≡ tag
  pub left : (f : Image) (m : Pairs) → content ≡ Some f → HasPairsLeft f c first m → (rest : Pairs) × (m ≡ told ++ rest) × HasPairsLeft f d walk rest

-- none yet
pub none_written : (content : Option Image) (held : Option (List ℕ)) (walk : Walk) (c : Blocks) (tag : ℕ) → tag ≡ 1 → PagesSoFar content held held walk walk c c tag
none_written content held walk c tag is = record {
  told = [];
  wrote = appends_none held;
  lawful = tt;
  next = sym is;
  left = λ f m exposed has. (m, refl, has);
}

-- what was told is in front of what was left
page_front : (f : Image) (c : Blocks) (w : Walk) (left told : Pairs) (more : Bool) → GivesPage f c w left told more → (rest : Pairs) × (left ≡ told ++ rest)
page_front f c w left told true gives = (gives.0, gives.1)
page_front f c w left told false gives = ([], sym gives ∙ sym (append-nil told))

-- a walk that did not begin wrote nothing
pub unbegun : (e : Fault) (h : Option (List ℕ)) → WritesPairs (broken_by e) h h [] × ((m : Pairs) → AreTold (broken_by e) [] m)
unbegun fault.Device h = (appends_none h, λ m. (m, refl))
unbegun (fault.Damaged b) h = (appends_none h, λ m. (m, refl))

-- which fault an end is of
damaged_fault : (e : Fault) (b : ℕ) → broken_by e ≡ ended.Damaged b → e ≡ fault.Damaged b
damaged_fault fault.Device b is = let x : ended.Device ≡ ended.Damaged b = is in absurd (cc)
damaged_fault (fault.Damaged block) b is = let x : ended.Damaged block ≡ ended.Damaged b = is in let same : block ≡ b = cc in ap (λ (n : ℕ). fault.Damaged n) same

pub err_damaged : {T : Type 0} (e : Fault) (b : ℕ) → broken_by e ≡ ended.Damaged b → IsErrOf {T = T} {E = Fault} (Err e) (fault.Damaged b)
err_damaged e b is = ap (λ (x : Fault). Err x) (damaged_fault e b is)

-- a cache that has no block keeps each as it stands
pub none_cached : (f : Image) (next : ℕ) (arrays : List ArrayDesc) (c : Blocks) → c.entries ≡ [] → AreCachedFrom f next arrays c
none_cached f next arrays c none = record {
  old = λ k x at. absurd (omega (arith, at.1, ap (λ l. length l) none));
  same = λ a index block x of at place. absurd (omega (arith, at.1, ap (λ l. length l) none));
}

module _ (content : Option Image) (held now : Option (List ℕ)) (first walk : Walk) (c d : Blocks) (tag : ℕ) (so_far : PagesSoFar content held now first walk c d tag) where
  -- all pairs so far, and a page
  both : (page : Pairs) → exported (so_far.told ++ page) ≡ exported so_far.told ++ flat_map frame (put_bodies (1 + length so_far.told) page)
  both page = frames_then 1 so_far.told page

  -- no page more
  pub stopped : (e : Fault) → (told : Pairs) × WritesPairs (broken_by e) held now told × AreLawful told × ((f : Image) (m : Pairs) → content ≡ Some f → HasPairsLeft f c first m → AreTold (broken_by e) told m)
  stopped fault.Device = (so_far.told, so_far.wrote, so_far.lawful, λ f m exposed has. let left = so_far.left f m exposed has in (left.0, left.1))
  stopped (fault.Damaged b) = (so_far.told, so_far.wrote, so_far.lawful, λ f m exposed has. let left = so_far.left f m exposed has in (left.0, left.1))

  module _ (page : Pairs) (lawful : AreLawful page) where
    lawful_now : AreLawful (so_far.told ++ page)
    lawful_now = lawful_both so_far.told page so_far.lawful lawful

    -- a page was written, and others follow
    pub page_written : (new : Option (List ℕ)) (next : Walk) (e : Blocks) (after : ℕ) → Appends now new (flat_map frame (put_bodies (1 + length so_far.told) page)) → ((1 + length so_far.told) + length page) % 4294967296 ≡ after
        → ((f : Image) (m : Pairs) → content ≡ Some f → HasPairsLeft f d walk m → GivesPage f e next m page true) → PagesSoFar content held new first next c e after
    page_written new next e after wrote tags gives = record {
      told = so_far.told ++ page;
      lawful = lawful_now;
      wrote = subst (λ (bytes : List ℕ). Appends held new bytes) (sym (both page)) (appends_then held now new (exported so_far.told) (flat_map frame (put_bodies (1 + length so_far.told) page)) so_far.wrote wrote);
      next = (ap (λ (n : ℕ). n % 4294967296) (omega (arith, length-append so_far.told page))) ∙ tags;
      left = λ f m exposed has.
          let left = so_far.left f m exposed has in
          let page_is = gives f left.0 exposed left.2 in (
            page_is.0,
            left.1 ∙ ap (λ (l : Pairs). so_far.told ++ l) page_is.1 ∙ sym (append_assoc so_far.told page page_is.0),
            page_is.2,
          );
    }

    -- the last one was
    pub all_written : (new : Option (List ℕ)) (next : Walk) (e : Blocks) → Appends now new (flat_map frame (put_bodies (1 + length so_far.told) page))
        → ((f : Image) (m : Pairs) → content ≡ Some f → HasPairsLeft f d walk m → GivesPage f e next m page false)
        → (told : Pairs) × Appends held new (exported told) × AreLawful told × ((f : Image) (m : Pairs) → content ≡ Some f → HasPairsLeft f c first m → told ≡ m)
    all_written new next e wrote gives = (
      so_far.told ++ page,
      subst (λ (bytes : List ℕ). Appends held new bytes) (sym (both page)) (appends_then held now new (exported so_far.told) (flat_map frame (put_bodies (1 + length so_far.told) page)) so_far.wrote wrote),
      lawful_now,
      λ f m exposed has. let left = so_far.left f m exposed has in ap (λ (l : Pairs). so_far.told ++ l) (gives f left.0 exposed left.2) ∙ sym left.1,
    )

    -- the sink failed at it
    pub cut : (new : Option (List ℕ)) (next : Walk) (e : Blocks) (more : Bool) (n : ℕ) → n < length (flat_map frame (put_bodies (1 + length so_far.told) page)) → Appends now new (take n (flat_map frame (put_bodies (1 + length so_far.told) page)))
        → ((f : Image) (m : Pairs) → content ≡ Some f → HasPairsLeft f d walk m → GivesPage f e next m page more)
        → (told : Pairs) × WritesPairs ended.Sink held new told × AreLawful told × ((f : Image) (m : Pairs) → content ≡ Some f → HasPairsLeft f c first m → AreTold ended.Sink told m)
    cut new next e more n less wrote gives =
        let front = exported so_far.told in
        let bytes = flat_map frame (put_bodies (1 + length so_far.told) page) in
        let all = both page in
        let long : length (exported (so_far.told ++ page)) ≡ length front + length bytes = ap (λ (l : List ℕ). length l) all ∙ length-append front bytes in
        let taken : take (length front + n) (exported (so_far.told ++ page)) ≡ front ++ take n bytes = ap (λ (l : List ℕ). take (length front + n) l) all ∙ take-append-add front bytes n in (
          so_far.told ++ page,
          (
            length front + n,
            omega (arith, long, less),
            subst (λ (l : List ℕ). Appends held new l) (sym taken) (appends_then held now new front (take n bytes) so_far.wrote wrote),
          ),
          lawful_now,
          λ f m exposed has.
              let left = so_far.left f m exposed has in
              let page_is = page_front f e next left.0 page more (gives f left.0 exposed left.2) in (
                page_is.0,
                left.1 ∙ ap (λ (l : Pairs). so_far.told ++ l) page_is.1 ∙ sym (append_assoc so_far.told page page_is.0),
              ),
        )
