-- Cursors as a store's memory is seen, as they tell pages and as others are opened.
use Rattle.std.proofs.Common.{◌≡◌, ◌<◌, ◌∷◌, [], ℕ, Bool, false, eqb, inl, inr, List, Option, Result, Ok, Err, length, refl, sym, ap, ◌∙◌, subst}
use Rattle.std.specs.List.{Contains}
use Rattle.std.specs.Result.{IfOk, IsErrAnd, IsErrOf, OnErr}
use Rattle.std.proofs.lemmas.Bool.{cases_Bool, eqb-true}
use Rattle.std.proofs.lemmas.Result.{err_from_is_err_and}
use Rattle.strat_arena.specs.declared.pool.PoolEntry.{PoolEntry}
use Rattle.strat_array.specs.Kept.{Blocks}
use Rattle.strat_base.proofs.ResultFacts.{err_of}
use Rattle.strat_base.proofs.ListFacts.{Among, any_among, among_in_flat}
use Rattle.strat_base.specs.Tree.{Parents}
use Rattle.strat_base.specs.declared.descriptors.ArrayDesc.{ArrayDesc}
use Rattle.def_crash.specs.Image.{Image}
use Rattle.def_crash.specs.Moments.{DiskView, Exposes}
use Rattle.strat_model.specs.Pairs.{Pairs}
use Rattle.def_recovery.proofs.BadLemmas.{contained_at}
use Rattle.strat_cursor.specs.Cursors.{OpenCursor, CursorsView, IsMapPinned, MayGoOn, TellsNext, arrays_named, is_opened, moved_at}
use Rattle.strat_cursor.specs.Held.{HeldCursor, IsMapHeld, cursor_held, cursors_held, opened_held}
use Rattle.strat_cursor.specs.Looking.{LooksThrough, NamesNoBlock}
use Rattle.strat_cursor.specs.Pins.{ArePinned}
use Rattle.strat_cursor.specs.declared.cursors.NextFault.{NextFault}
use Rattle.strat_cursor.specs.declared.cursors.NextFault.TheVariants.{UnknownCursor, Damaged}
use Rattle.strat_cursor.proofs.HeldLemmas.{held_arrays, held_moved, held_opened}
use Rattle.strat_cursor.proofs.PinLemmas.{among_contained}
use Rattle.strat_cursor.proofs.RowLemmas.{map_pinned}

-- what holds of each cursor as it is held
each_held : (pool : List PoolEntry) (P : HeldCursor → Type 0) (cursors : List OpenCursor) → ((c : OpenCursor) → Among c cursors → P (cursor_held pool c)) → (h : HeldCursor)
    → Among h (opened_held pool cursors) → P h
each_held pool P [] each h among = absurd among
each_held pool P (c ∷ cursors) each h (inl here) = subst P (sym here) (each c (inl refl))
each_held pool P (c ∷ cursors) each h (inr there) = each_held pool P cursors (λ d at. each d (inr at)) h there

-- cursors read versions of the tree
pub held_known : (pool : List PoolEntry) (parents : Parents) (cursors : List OpenCursor) → ArePinned pool parents cursors → (h : HeldCursor) → Contains (opened_held pool cursors) h
    → h.version < length parents
held_known pool parents cursors pinned h at =
    each_held pool (λ x. x.version < length parents) cursors (λ c among. (pinned.each c (among_contained cursors c among)).version) h
    (contained_at h (opened_held pool cursors) at.0 at.1 at.2)

module _ (pool : List PoolEntry) (cursors : List OpenCursor) (n : ℕ) where
  -- what a page tells of an open cursor it tells of that as it is held
  pub held_tells : (parents : Parents) (limit : ℕ) (told : Pairs) (more : Bool) (v : DiskView) (cached : Blocks)
      → ((c : OpenCursor) → Contains cursors c → c.number ≡ n → (f : Image) (next : ℕ) (m : Pairs) → Exposes v f → MayGoOn f next c cached → IsMapPinned f parents pool c m
      → TellsNext m c limit told more)
      → (h : HeldCursor) → Contains (opened_held pool cursors) h → h.number ≡ n → (f : Image) (next : ℕ) (m : Pairs) → Exposes v f → MayGoOn f next h cached → IsMapHeld f parents h m
      → TellsNext m h limit told more
  held_tells parents limit told more v cached tells h at =
      each_held pool (λ x. x.number ≡ n → (f : Image) (next : ℕ) (m : Pairs) → Exposes v f → MayGoOn f next x cached → IsMapHeld f parents x m → TellsNext m x limit told more) cursors
      (λ c among number f next m shown goes reads.
      let told_of = tells c (among_contained cursors c among) number f next m shown (record { ordered = goes.ordered; ids = goes.ids; same = goes.same }) (map_pinned f parents pool c m reads) in
      record { page = told_of.page; left = told_of.left })
      h (contained_at h (opened_held pool cursors) at.0 at.1 at.2)

  pub held_looks : (old new : DiskView) (c d : Blocks) → LooksThrough old new (arrays_named cursors) c d → LooksThrough old new (arrays_named (opened_held pool cursors)) c d
  held_looks old new c d looks = subst (λ (x : List ArrayDesc). LooksThrough old new x c d) (sym (held_arrays pool cursors)) looks

  -- no cursor has the number, as the inner call says
  pub found_held : (r : Result Bool NextFault) (x : NextFault) → IsErrAnd r (λ e. e ≡ x)
      → (IsErrOf {T = Bool} (Err x) UnknownCursor → is_opened n cursors ≡ false) × (is_opened n cursors ≡ false → IsErrOf {T = Bool} (Err x) UnknownCursor)
      → (IsErrOf r UnknownCursor → is_opened n (opened_held pool cursors) ≡ false) × (is_opened n (opened_held pool cursors) ≡ false → IsErrOf r UnknownCursor)
  found_held r x and found =
      let p = err_from_is_err_and r and in (
        λ of. held_opened pool n cursors ∙ found.0 (err_of r x UnknownCursor and of),
        λ none. p.1 ∙ ap (λ (e : NextFault). Err e) p.2 ∙ found.1 (sym (held_opened pool n cursors) ∙ none),
      )

  -- a block that is named as damaged is one of a cursor's arrays'
  pub damaged_held : (content : Option Image) (r : Result Bool NextFault) (x : NextFault) → IsErrAnd r (λ e. e ≡ x)
      → (IsErrOf {T = Bool} (Err x) UnknownCursor → is_opened n cursors ≡ false) × (is_opened n cursors ≡ false → IsErrOf {T = Bool} (Err x) UnknownCursor)
      → ((b : ℕ) (c : OpenCursor) → IsErrOf {T = Bool} (Err x) (Damaged b) → Contains cursors c → c.number ≡ n → NamesNoBlock content c.arrays b)
      → (b : ℕ) → IsErrOf r (Damaged b) → NamesNoBlock content (arrays_named (opened_held pool cursors)) b
  damaged_held content r x and found damaged b of =
      let torn : ◌≡◌ {A = Result Bool NextFault} (Err x) (Err (Damaged b)) = err_of r x (Damaged b) and of in
      elim (cases_Bool (is_opened n cursors)) [
        | inl there ↦
            let one = any_among (λ (c : OpenCursor). eqb c.number n) cursors there in
            let names = damaged b one.0 torn (among_contained cursors one.0 one.1) (eqb-true one.0.number n one.2) in
            let among = contained_at names.array one.0.arrays names.one.0 names.one.1 names.one.2 in
            let all = among_in_flat (λ (c : OpenCursor). c.arrays) cursors one.0 names.array one.1 among in
            record {
              array = names.array;
              one = subst (λ (a : List ArrayDesc). Contains a names.array) (sym (held_arrays pool cursors)) (among_contained (arrays_named cursors) names.array all);
              none = names.none;
            }
        | inr gone ↦ absurd (let unknown = found.1 gone in let both : ◌≡◌ {A = Result Bool NextFault} (Err (Damaged b)) (Err UnknownCursor) = sym torn ∙ unknown in cc)
      ]

-- cursors as they are held after a page
pub held_paged : (pool : List PoolEntry) (old new : CursorsView) (n : ℕ) (more : Bool) (told : Pairs) → new ≡ record old { opened = moved_at n more told old.opened }
    → cursors_held pool new ≡ record (cursors_held pool old) { opened = moved_at n more told (opened_held pool old.opened) }
held_paged pool old new n more told end =
    ap (λ (x : CursorsView). cursors_held pool x) end ∙ (λ i. record (cursors_held pool old) { opened = held_moved pool n more told old.opened i })

pub found_ok : (more : Bool) (found : Bool) (same : Bool) → found ≡ same
    → (IsErrOf {T = Bool} {E = NextFault} (Ok more) UnknownCursor → same ≡ false) × (same ≡ false → IsErrOf {T = Bool} {E = NextFault} (Ok more) UnknownCursor)
    → (IsErrOf {T = Bool} {E = NextFault} (Ok more) UnknownCursor → found ≡ false) × (found ≡ false → IsErrOf {T = Bool} {E = NextFault} (Ok more) UnknownCursor)
found_ok more found same is known = (λ none. is ∙ known.0 none, λ none. known.1 (sym is ∙ none))

-- what a call gives, by what it ensures
pub if_ok : {T E : Type 0} (r : Result T E) (A B : T → Type 0) → ((x : T) → A x → B x) → IfOk r A → IfOk r B
if_ok (Ok x) A B then is = then x is
if_ok (Err e) A B then is = tt

pub if_err : {T E : Type 0} (r : Result T E) (P Q : Type 0) → (P → Q) → OnErr r P → OnErr r Q
if_err (Ok x) P Q then is = tt
if_err (Err e) P Q then is = then is
