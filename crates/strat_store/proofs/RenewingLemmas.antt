-- A change that meets a full region: a promotion goes on first, and stays open, or a publication empties that region.
use Rattle.std.proofs.Common.{◌≡◌, ◌≤◌, ◌<◌, ◌+◌, ℕ, Bool, true, false, inl, inr, eqb, not, if◌then◌else◌, List, [], ◌∷◌, drop, length, Some, None, refl, sym, ap, ◌∙◌, subst, true≢false, arith}
use Rattle.std.proofs.lemmas.List.{length-drop}
use Rattle.strat_array.specs.Kept.{Blocks}
use Rattle.strat_base.specs.Change.{Change}
use Rattle.strat_base.specs.Change as change
use Rattle.strat_base.specs.Marks.{has_living_child}
use Rattle.strat_base.specs.declared.failures.Trouble.{Trouble}
use Rattle.strat_base.specs.declared.failures.Trouble.TheVariants as trouble
use Rattle.def_crash.specs.Moments.{DiskView, Passes}
use Rattle.def_crash.specs.Trail.{Trail}
use Rattle.def_crash.proofs.MomentLemmas.{since_now}
use Rattle.def_crash.proofs.TrailLemmas.{trail_of_one, trail_join, trail_more}
use Rattle.strat_model.specs.Answer.{plain, accepts}
use Rattle.strat_journal.specs.Log.{Log}
use Rattle.strat_model.specs.Run.{IsAfter, MayFill, is_carried_out}
use Rattle.strat_model.proofs.FillLemmas.{carried, refused_not, stays}
use Rattle.strat_model.specs.Step.{Outcome, step}
use Rattle.strat_model.specs.Table.{Table}
use Rattle.strat_model.specs.declared.replies.Refusal.{Refusal}
use Rattle.strat_model.specs.declared.replies.Refusal.TheVariants as why
use Rattle.strat_model.specs.declared.replies.Reply.{Reply}
use Rattle.strat_model.specs.declared.replies.Reply.TheVariants as reply
use Rattle.def_meaning.specs.StateTable.{table_of, request_for}
use Rattle.def_publish.specs.Contents.{Contents, contents_state}
use Rattle.def_publish.specs.Standing.{ShowsTable}
use Rattle.def_publish.proofs.FreeLemmas.{shows_contents}
use Rattle.strat_store.specs.Applying.{IsAppliedTo, FollowsStep, tells_fault, table_left, refusal_of_trouble}
use Rattle.strat_publish.specs.Outcomes.{IsPublishedAs}
use Rattle.strat_memory.specs.Held.{head_held, IsConsistent, StandsWith, position_with}
use Rattle.strat_memory.specs.Memory.{Memory, refusal_of_change, has_version}
use Rattle.strat_memory.specs.RecoveredFields.{held_of}
use Rattle.strat_store.specs.Applying.{held_after}
use Rattle.strat_memory.specs.declared.open_store.OpenStore.{OpenStore}
use Rattle.strat_store.proofs.ChangingLemmas.{changes_it, state_held, acceptable, breaks}
use Rattle.strat_store.proofs.GoingLemmas.{stands_spent}
use Rattle.strat_memory.proofs.MemoryLawLemmas.{change_refused}

-- one of three refusals, or of four, of which each has this
of_three : (P : Refusal → Type 0) (k f l : Bool) (a b c r : Refusal) → P a → P b → P c → (if not k then Some a else if f then Some b else if l then Some c else None) ≡ Some r → P r
of_three P false f l a b c r x y z e = let same : a ≡ r = cc in subst P same x
of_three P true true l a b c r x y z e = let same : b ≡ r = cc in subst P same y
of_three P true false true a b c r x y z e = let same : c ≡ r = cc in subst P same z
of_three P true false false a b c r x y z e = absurd (cc)

of_four : (P : Refusal → Type 0) (k z f l : Bool) (a b c d r : Refusal) → P a → P b → P c → P d → (if not k then Some a else if z then Some b else if f then Some c else if l then Some d else None) ≡ Some r → P r
of_four P false z f l a b c d r w x y v e = let same : a ≡ r = cc in subst P same w
of_four P true true f l a b c d r w x y v e = let same : b ≡ r = cc in subst P same x
of_four P true false f l a b c d r w x y v e = of_three P true f l a c d r w y v e

of_change : (P : Refusal → Type 0) (m : Memory) (c : Change) (q : Refusal) → P why.UnknownVersion → P why.Root → P why.Frozen → P why.VersionLimit → P why.ChangeLimit → refusal_of_change m c ≡ Some q → P q
of_change P m (change.Put v key value) q u z f vl cl e = of_three P (has_version m v) (has_living_child m.parents m.marks v) (eqb m.changes m.changes_max) why.UnknownVersion why.Frozen why.ChangeLimit q u f cl e
of_change P m (change.Delete v key) q u z f vl cl e = of_three P (has_version m v) (has_living_child m.parents m.marks v) (eqb m.changes m.changes_max) why.UnknownVersion why.Frozen why.ChangeLimit q u f cl e
of_change P m (change.Clone v) q u z f vl cl e = of_three P (has_version m v) (eqb (length m.parents) m.versions_max) (eqb m.changes m.changes_max) why.UnknownVersion why.VersionLimit why.ChangeLimit q u vl cl e
of_change P m (change.DropVersion v) q u z f vl cl e =
    of_four P (has_version m v) (eqb v 0) (has_living_child m.parents m.marks v) (eqb m.changes m.changes_max) why.UnknownVersion why.Root why.Frozen why.ChangeLimit q u z f cl e

-- a change that is refused tells of no fault
refused_calm : (m : Memory) (c : Change) (q : Refusal) → refusal_of_change m c ≡ Some q → tells_fault q ≡ false
refused_calm m c q e = of_change (λ (r : Refusal). tells_fault r ≡ false) m c q refl refl refl refl refl e

-- nor of want of memory
pub refused_not_short : (m : Memory) (c : Change) (q : Refusal) → refusal_of_change m c ≡ Some q → reply.Refused q ≡ reply.Refused why.NoMemory → ⊥
refused_not_short m c q e = of_change (λ (r : Refusal). reply.Refused r ≡ reply.Refused why.NoMemory → ⊥) m c q (λ short. cc) (λ short. cc) (λ short. cc) (λ short. cc) (λ short. cc) e

-- and changes nothing
module _ (r : OpenStore) (cached : Blocks) (kept : IsConsistent (held_of r cached)) (v : DiskView) (x : Contents) (stands : StandsWith v (held_of r cached) x)
    (c : Change) (q : Refusal) (refused : refusal_of_change r.memory c ≡ Some q) where
  pub refused_well : IsAppliedTo v (held_of r cached) x (request_for c) (plain (reply.Refused q)) (held_after r cached (reply.Refused q))
  refused_well =
      let same = change_refused stands.stands.content (head_held (held_of r cached)) (contents_state x) r.memory (state_held r cached kept v x stands) kept.memory c q refused in
      let at = position_with (held_of r cached) x in
      let after = position_with (held_after r cached (reply.Refused q)) x in
      let off : is_carried_out at (request_for c) ≡ false = refused_not at (request_for c) (ap (λ (o : Outcome). accepts o.answer.reply) same) in
      inl (record {
        told = sym (ap (λ (o : Outcome). o.answer) same);
        going = refused_calm r.memory c q refused;
        after = x;
        stands = stands_spent v (held_of r cached) x (tells_fault q) stands;
        place = stays r.journal.mem at after (request_for c) off (λ i. (sym same i).table) refl;
      })

  pub refused_trail : FollowsStep v v x (request_for c) (plain (reply.Refused q))
  refused_trail =
      trail_of_one ShowsTable v v.moment (table_of (contents_state x)) (table_left (table_of (contents_state x)) (request_for c) (reply.Refused q) ∷ []) (omega arith)
      (λ i since. shows_contents i x stands.stands.sound (stands.stands.reads i (since_now v i since)))

-- a trouble that tells of no fault is want of memory
pub calm_short : (t : Trouble) (told : Refusal) → told ≡ refusal_of_trouble t → tells_fault told ≡ false → t ≡ trouble.NoMemory
calm_short trouble.NoMemory told is calm = refl
calm_short trouble.Device told is calm = let fault : true ≡ false = sym (ap tells_fault is) ∙ calm in absurd (cc)
calm_short (trouble.Damaged b) told is calm = let fault : true ≡ false = sym (ap tells_fault is) ∙ calm in absurd (cc)

-- a trouble that is told as want of memory is want of memory
pub short_of : (t : Trouble) (told : Refusal) → told ≡ refusal_of_trouble t → reply.Refused told ≡ reply.Refused why.NoMemory → t ≡ trouble.NoMemory
short_of trouble.NoMemory told is short = refl
short_of trouble.Device told is short = absurd (let e : reply.Refused why.DeviceFault ≡ reply.Refused why.NoMemory = sym (ap reply.Refused is) ∙ short in cc)
short_of (trouble.Damaged b) told is short = absurd (let e : reply.Refused (why.Damaged b) ≡ reply.Refused why.NoMemory = sym (ap reply.Refused is) ∙ short in cc)

-- and one that is told as a damaged block is that
pub damage_of : (t : Trouble) (told : Refusal) (b : ℕ) → told ≡ refusal_of_trouble t → reply.Refused told ≡ reply.Refused (why.Damaged b) → t ≡ trouble.Damaged b
damage_of trouble.NoMemory told b is bad = absurd (let e : reply.Refused why.NoMemory ≡ reply.Refused (why.Damaged b) = sym (ap reply.Refused is) ∙ bad in cc)
damage_of trouble.Device told b is bad = absurd (let e : reply.Refused why.DeviceFault ≡ reply.Refused (why.Damaged b) = sym (ap reply.Refused is) ∙ bad in cc)
damage_of (trouble.Damaged a) told b is bad =
    let e : reply.Refused (why.Damaged a) ≡ reply.Refused (why.Damaged b) = sym (ap reply.Refused is) ∙ bad in
    let same : a ≡ b = cc in
    ap trouble.Damaged same

module _ (r : OpenStore) (cached : Blocks) (kept : IsConsistent (held_of r cached)) (v : DiskView) (x : Contents) (stands : StandsWith v (held_of r cached) x)
    (c : Change) (free : refusal_of_change r.memory c ≡ None) (full : r.sb.mem ≤ length r.journal.list) where
  accepted : accepts (step (table_of (contents_state x)) (request_for c)).answer.reply ≡ true
  accepted = acceptable r cached kept v x stands c free

  -- the publication gave up
  gives_up : (new : OpenStore) (w : DiskView) (t : Trouble) → (t ≡ trouble.NoMemory → StandsWith w (held_of new cached) x) → (t ≡ trouble.NoMemory → new.journal ≡ r.journal)
      → ((b : ℕ) → t ≡ trouble.Damaged b → ⊥)
      → IsAppliedTo w (held_of r cached) x (request_for c) (plain (reply.Refused (refusal_of_trouble t))) (held_after new cached (reply.Refused (refusal_of_trouble t)))
  gives_up new w trouble.NoMemory still same whole =
      let now : StandsWith w (held_of new cached) x = still refl in
      inr (inl (record {
        changes = changes_it c;
        acceptable = accepted;
        full = omega (arith, full, kept.log.mem);
        told = refl;
        going = refl;
        stands = stands_spent w (held_of new cached) x false now;
        place = λ i. record { table = table_of (contents_state x); fill = length (same refl i).list };
      }))
  gives_up new w trouble.Device still same whole = breaks r cached kept v x stands c free new w
  gives_up new w (trouble.Damaged b) still same whole = absurd (whole b refl)

  pub told_up : (new : OpenStore) (w : DiskView) (t : Trouble) (told : Refusal) → told ≡ refusal_of_trouble t → (t ≡ trouble.NoMemory → StandsWith w (held_of new cached) x)
      → (t ≡ trouble.NoMemory → new.journal ≡ r.journal) → ((b : ℕ) → t ≡ trouble.Damaged b → ⊥)
      → IsAppliedTo w (held_of r cached) x (request_for c) (plain (reply.Refused told)) (held_after new cached (reply.Refused told))
  told_up new w t told is still same whole =
      subst (λ (q : Refusal). IsAppliedTo w (held_of r cached) x (request_for c) (plain (reply.Refused q)) (held_after new cached (reply.Refused q))) (sym is)
      (gives_up new w t still same whole)

  -- it is carried out at the position of the contents
  here : is_carried_out (position_with (held_of r cached) x) (request_for c) ≡ true
  here = carried (position_with (held_of r cached) x) (request_for c) (changes_it c) accepted

  whole : r.journal.mem ≤ length r.journal.list
  whole = omega (arith, full, kept.log.mem)

  module _ (mid : OpenStore) (u : DiskView) where
    -- a trail goes on from contents that mean the same table
    pub renewed_trail : (y : Contents) (w : DiskView) (told : Reply) → table_of (contents_state y) ≡ table_of (contents_state x) → Passes u w → Trail ShowsTable u v.moment (table_of (contents_state x) ∷ []) 0
        → FollowsStep u w y (request_for c) (plain told) → FollowsStep v w x (request_for c) (plain told)
    renewed_trail y w told same passes before after =
        let n : ℕ = if accepts told then 1 else 0 in
        let t : Table = table_of (contents_state x) in
        let more : Trail ShowsTable w u.moment (t ∷ table_left t (request_for c) told ∷ []) n =
        subst (λ (s : Table). Trail ShowsTable w u.moment (s ∷ table_left s (request_for c) told ∷ []) n) same after in
        let sum : 0 + n ≡ n = omega arith in
        subst (λ (k : ℕ). Trail ShowsTable w v.moment (t ∷ table_left t (request_for c) told ∷ []) k) sum
        (trail_join ShowsTable u w v.moment [] (table_left t (request_for c) told ∷ []) t n passes before more)

    -- a promotion stays open over the same contents, and the change is carried out behind the full region
    pub carried_behind : (new : OpenStore) (w : DiskView) (told : Reply) → mid.journal ≡ r.journal → IsAppliedTo w (held_of mid cached) x (request_for c) (plain told) (held_after new cached told)
        → IsAppliedTo w (held_of r cached) x (request_for c) (plain told) (held_after new cached told)
    carried_behind new w told same (inl a) = inl (record {
      told = a.told;
      going = a.going;
      after = a.after;
      stands = a.stands;
      place = subst (λ (j : Log). IsAfter j.mem (record { table = table_of (contents_state x); fill = length j.list }) (request_for c) (position_with (held_after new cached told) a.after)) same a.place;
    })
    carried_behind new w told same (inr (inl short)) = inr (inl (record {
      changes = short.changes;
      acceptable = short.acceptable;
      full = whole;
      told = short.told;
      going = short.going;
      stands = short.stands;
      place = short.place ∙ ap (λ (j : Log). record { table = table_of (contents_state x); fill = length j.list }) same;
    }))
    carried_behind new w told same (inr (inr broken)) = inr (inr (record { reached = broken.reached; acceptable = accepted; told = broken.told; spent = broken.spent }))

    -- or other contents that mean the same table stand, and the journal has what was behind the full region
    module _ (held : IsConsistent (held_of mid cached)) (size : mid.sb.mem ≡ r.sb.mem) (left : mid.journal.list ≡ drop r.sb.mem r.journal.list) (p : IsPublishedAs u x (held_of mid cached)) where
      -- it is accepted there too, and so carried out
      there : is_carried_out (position_with (held_of mid cached) p.after) (request_for c) ≡ true
      there = carried (position_with (held_of mid cached) p.after) (request_for c) (changes_it c) (ap (λ (t : Table). accepts (step t (request_for c)).answer.reply) p.table ∙ accepted)

      -- there is room behind what is left
      many : length mid.journal.list + r.sb.mem ≡ length r.journal.list
      many = let n = ap (λ (cs : List Change). length cs) left in omega (arith, n, length-drop r.sb.mem r.journal.list, full)

      under : length mid.journal.list < mid.journal.mem
      under = omega (arith, many, kept.log.few, kept.lawful.mem_least, held.log.mem, size)

      -- and the change comes behind that
      last : (n : ℕ) → MayFill mid.journal.mem (length mid.journal.list) n → n + r.sb.mem ≡ length r.journal.list + 1
      last n (inl more) = omega (arith, more.1, many)
      last n (inr anew) = absurd (omega (arith, anew.0, under))

      -- the change is carried out on these
      pub renewed : (new : OpenStore) (w : DiskView) (told : Reply) → IsAppliedTo w (held_of mid cached) p.after (request_for c) (plain told) (held_after new cached told)
          → IsAppliedTo w (held_of r cached) x (request_for c) (plain told) (held_after new cached told)
      renewed new w told (inl a) = inl (record {
        told = a.told ∙ ap (λ (t : Table). (step t (request_for c)).answer) p.table;
        going = a.going;
        after = a.after;
        stands = a.stands;
        place = record {
          table = a.place.table ∙ ap (λ (t : Table). (step t (request_for c)).table) p.table;
          fill = λ done.
              let sum : length new.journal.list + r.journal.mem ≡ length r.journal.list + 1 = omega (arith, last (length new.journal.list) (a.place.fill there), kept.log.mem) in
              inr (whole, sum);
          same = λ off. absurd (true≢false (sym here ∙ off));
        };
      })
      renewed new w told (inr (inl short)) = absurd (omega (arith, short.full, under))
      renewed new w told (inr (inr broken)) = inr (inr (record { reached = broken.reached; acceptable = accepted; told = broken.told; spent = broken.spent }))

-- where the publication gave up each image shows the table of before
pub trail_so_far : (v w : DiskView) (x : Contents) (after : Table) → Trail ShowsTable w v.moment (table_of (contents_state x) ∷ []) 0 → Trail ShowsTable w v.moment (table_of (contents_state x) ∷ after ∷ []) 0
trail_so_far v w x after trail = trail_more ShowsTable w v.moment (table_of (contents_state x) ∷ []) (after ∷ []) 0 trail
