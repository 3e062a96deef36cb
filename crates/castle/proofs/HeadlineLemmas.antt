-- What a run comes to, by its status.
use Rattle.std.proofs.Common.{◌≡◌, ◌≢◌, ◌⊎◌, ◌≤◌, ◌-◌, ◌*◌, ℕ, List, [], ◌∷◌, length, Option, Some, None, refl, sym, ap, subst, ◌∙◌, inl, inr, append-nil, arith}
use Rattle.std.specs.Prelude.{◌==◌, if◌then◌else◌, Ok, Err}
use Rattle.std.proofs.lemmas.Bool.{leb-true}
use Rattle.def_state.specs.Sound.{journal_max}
use Rattle.def_crash.specs.Image.{Image, Outside}
use Rattle.def_crash.specs.Moments.{DiskView, Exposes, Images, Since, KeepsImages}
use Rattle.def_crash.specs.Trail.{At}
use Rattle.def_bytes.specs.Damage.{Read}
use Rattle.def_bytes.specs.Layout.{region_at, other_region}
use Rattle.def_bytes.specs.SuperBlock.{Super, newest_in}
use Rattle.strat_io.specs.Streams.{Appends}
use Rattle.strat_model.specs.declared.ended.Ended.{Ended}
use Rattle.strat_model.specs.declared.ended.Ended.TheVariants as ended
use Rattle.strat_model.specs.Ended.{status_of}
use Rattle.strat_model.specs.Run.{Exchange, Transcript}
use Rattle.strat_model.proofs.BatchLemmas.{over_nothing}
use Rattle.strat_model.specs.Table.{Table, bare}
use Rattle.def_recovery.specs.Head.{Head}
use Rattle.def_recovery.specs.Opening.{recover}
use Rattle.def_publish.specs.Standing.{ShowsTable}
use Rattle.strat_open.specs.Following.{FollowsFrom, LeavesOpening}
use Rattle.strat_memory.specs.Held.{head_held}
use Rattle.strat_loop.specs.Session.{Took, AreNextIn, GaveUp, RefusesFor, EndsFor}
use Rattle.strat_serve.specs.Serving.{Served, RunOutcome}
use Rattle.strat_serve.specs.Tables.{AnswersAsTable, AnswersNothing, AnswersUntil, EndsAtTables, GoesThroughTables, KeepsSpace, begins_at}
use Rattle.strat_loop.specs.World.{Streams, beside}
use Rattle.strat_serve.proofs.TableLemmas.{answers_as_table, goes_through, keeps_space, no_device_at_end}
use Rattle.castle.specs.Headline.{HasNotBegun}
use Rattle.castle.specs.Outcomes.{EndsAsInput}
use Rattle.castle.proofs.CompleteLemmas.{finds_none, finds_head}

-- the end with a status, but for that at a damaged block
abbrev pub end_of : ℕ → Ended
end_of n =
    if n == 0 then ended.Done else
    if n == 1 then ended.Usage else
    if n == 2 then ended.NotAStore else
    if n == 3 then ended.FrameTooLong else
    if n == 4 then ended.Truncated else
    if n == 5 then ended.Device else
    if n == 6 then ended.Source else
    if n == 7 then ended.Sink else
    if n == 8 then ended.NoMemory else
    if n == 10 then ended.Budget else
    if n == 11 then ended.Unsound else
    ended.UnknownVersion

end_is : (how : Ended) → status_of how ≢ 9 → how ≡ end_of (status_of how)
end_is ended.Done other = refl
end_is ended.Usage other = refl
end_is ended.NotAStore other = refl
end_is ended.FrameTooLong other = refl
end_is ended.Truncated other = refl
end_is ended.Device other = refl
end_is ended.Source other = refl
end_is ended.Sink other = refl
end_is ended.NoMemory other = refl
end_is (ended.Damaged block) other = absurd (other refl)
end_is ended.Budget other = refl
end_is ended.Unsound other = refl
end_is ended.UnknownVersion other = refl

-- how a run ended that has a status, but for that of a damaged block
pub ended_by : (status n : ℕ) (how : Ended) → status ≡ status_of how → status ≡ n → n ≢ 9 → how ≡ end_of n
ended_by status n how is this other = end_is how (λ nine. other (sym this ∙ is ∙ nine)) ∙ ap end_of (sym is ∙ this)

-- and with that
pub damaged_by : (status : ℕ) (how : Ended) → status ≡ status_of how → status ≡ 9 → (block : ℕ) × (how ≡ ended.Damaged block)
damaged_by status how is nine = go how (sym is ∙ nine)
  where
    go : (e : Ended) → status_of e ≡ 9 → (block : ℕ) × (e ≡ ended.Damaged block)
    go (ended.Damaged block) same = (block, refl)
    go ended.Done same = absurd (omega (arith, same))
    go ended.Usage same = absurd (omega (arith, same))
    go ended.NotAStore same = absurd (omega (arith, same))
    go ended.FrameTooLong same = absurd (omega (arith, same))
    go ended.Truncated same = absurd (omega (arith, same))
    go ended.Device same = absurd (omega (arith, same))
    go ended.Source same = absurd (omega (arith, same))
    go ended.Sink same = absurd (omega (arith, same))
    go ended.NoMemory same = absurd (omega (arith, same))
    go ended.Budget same = absurd (omega (arith, same))
    go ended.Unsound same = absurd (omega (arith, same))
    go ended.UnknownVersion same = absurd (omega (arith, same))

-- another status is another end
pub other_by : (status n : ℕ) (how : Ended) (e : Ended) → status ≡ status_of how → status_of e ≡ n → status ≢ n → how ≢ e
other_by status n how e is this other same = other (is ∙ ap status_of same ∙ this)

-- nothing was taken, and nothing was sent
took_nothing : (before now : Option (List ℕ)) → now ≡ before → Took before now []
took_nothing before now same = record { exposed = λ left e. (left, refl, same ∙ e); hidden = λ e. same ∙ e }

sent_nothing : (before now : Option (List ℕ)) → now ≡ before → Appends before now []
sent_nothing before now same = record { exposed = λ held e. same ∙ e ∙ ap Some (sym (append-nil held)); hidden = λ e. same ∙ e }

-- what an image shows has no cursors
bare_shown : (c : Image) (t : Table) → ShowsTable c t → bare t ≡ t
bare_shown c t shows = subst (λ (u : Table). bare u ≡ u) shows.table refl

module _ (x y : Streams) (v w : DiskView) (f : Image) (t : Table) (shows : ShowsTable f t) (exposed : Exposes v f) where
  -- the run in which nothing was answered
  abbrev nothing : Transcript
  nothing = record { exchanges = []; after = begins_at f t shows; interruption = None }

  none_answered : AnswersNothing nothing [] []
  none_answered = record { none = refl; taken_none = refl; sent_none = refl }

  pub record AsTable (how : Ended) : Type 0 where
    pub answers : AnswersAsTable 1099511627776 shows.state.mem (begins_at f t shows) (status_of how) x y
    pub left : EndsAtTables answers.run answers.continued.end w ⊎ HasNotBegun (status_of how) answers.run v w
    pub trail : GoesThroughTables answers.run answers.continued.end f v w ⊎ HasNotBegun (status_of how) answers.run v w
    pub space : KeepsSpace f v w

  -- a run that gave up answered nothing
  gave_answers : (how : Ended) → GaveUp how (beside x v) (beside y w) → AnswersUntil how 1099511627776 nothing [] y.left []
      → AnswersAsTable 1099511627776 shows.state.mem (begins_at f t shows) (status_of how) x y
  gave_answers how gave until = record {
    how = how;
    ended = refl;
    run = nothing;
    is = record { run = refl; interrupted = tt };
    region = (leb-true (length shows.state.journal) (journal_max shows.state.mem) shows.sound.formed.fits, tt);
    broken = tt;
    taken = [];
    took = took_nothing x.left y.left gave.source;
    within = omega arith;
    sent = [];
    adds = sent_nothing x.held y.held gave.sink;
    until = until;
    continued = (over_nothing shows.state.mem nothing).0;
    next = record {
      bodies = [];
      rest = [];
      splits = record { whole = refl; each = tt; last = refl };
      next = subst (λ (xs : List Exchange). AreNextIn [] nothing xs) (sym (over_nothing shows.state.mem nothing).1) refl;
    };
  }

  gave_kept : (how : Ended) → (status_of how ≡ 5) ⊎ (status_of how ≡ 8) → GaveUp how (beside x v) (beside y w) → AnswersUntil how 1099511627776 nothing [] y.left [] → KeepsImages v w → AsTable how
  unfolding gave_answers
  gave_kept how ends gave until kept = record {
    answers = gave_answers how gave until;
    left = inr (record { ends = ends; none = refl; kept = kept.each });
    trail = inr (record { ends = ends; none = refl; kept = kept.each });
    space = λ c since. inl (kept.each c since);
  }

  gave_follows : (how : Ended) → GaveUp how (beside x v) (beside y w) → AnswersUntil how 1099511627776 nothing [] y.left [] → FollowsFrom v w f (t ∷ []) 0 → AsTable how
  unfolding gave_answers
  gave_follows how gave until follows =
      let same : ◌≡◌ {A = List Table} (t ∷ []) (bare t ∷ []) = ap (λ (u : Table). u ∷ []) (sym (bare_shown f t shows)) in
      record {
        answers = gave_answers how gave until;
        left = inl (λ c image. let found = follows.left c image in (found.0, found.1, subst (λ (ts : List Table). At ts found.0 (ShowsTable c)) same found.2));
        trail = inl (goes_through v w f (t ∷ []) 0 follows nothing (over_nothing shows.state.mem nothing).0.end same refl);
        space = keeps_space v w f (t ∷ []) 0 follows;
      }

  gave_as_table : (how : Ended) → GaveUp how (beside x v) (beside y w) → RefusesFor how v w → AsTable how
  gave_as_table ended.NoMemory gave refuses = gave_kept ended.NoMemory (inr refl) gave none_answered (gave.kept (λ is. let e : ended.NoMemory ≡ ended.Device = is in cc)).1
  gave_as_table ended.Device gave refuses = elim (gave.failed refl f exposed) [
    | inl same ↦ gave_kept ended.Device (inl refl) gave (inl none_answered) same.1
    | inr stops ↦ gave_follows ended.Device gave (inl none_answered) (stops.follows t shows)
  ]
  gave_as_table ended.NotAStore gave refuses =
      let head = finds_head f t shows in
      let e : ◌≡◌ {A = Read (Option Head)} (Ok (Some head.0)) (Ok None) = sym head.1 ∙ finds_none f (refuses.none refl f exposed) in absurd cc
  gave_as_table (ended.Damaged block) gave refuses =
      let head = finds_head f t shows in
      let e : ◌≡◌ {A = Read (Option Head)} (Ok (Some head.0)) (Err block) = sym head.1 ∙ gave.damaged block refl f exposed in absurd cc
  gave_as_table ended.Done gave refuses = absurd gave.ends
  gave_as_table ended.Usage gave refuses = absurd gave.ends
  gave_as_table ended.FrameTooLong gave refuses = absurd gave.ends
  gave_as_table ended.Truncated gave refuses = absurd gave.ends
  gave_as_table ended.Source gave refuses = absurd gave.ends
  gave_as_table ended.Sink gave refuses = absurd gave.ends
  gave_as_table ended.Budget gave refuses = absurd gave.ends
  gave_as_table ended.Unsound gave refuses = absurd gave.ends
  gave_as_table ended.UnknownVersion gave refuses = absurd gave.ends

  served_as_table : (how : Ended) → Served 1099511627776 how (beside x v) (beside y w) → AsTable how
  served_as_table how served =
      let run = served.follows f t exposed shows in
      let a = answers_as_table 1099511627776 x y v w f t shows how served run in
      record {
        answers = a.0;
        left = inl a.1;
        trail = inl a.2;
        space = keeps_space v w f _ _ run.follows;
      }

  -- a serving run over a disk that shows a table
  pub as_table : (how : Ended) → RunOutcome 1099511627776 how (beside x v) (beside y w) → RefusesFor how v w → AsTable how
  as_table how (inl gave) refuses = gave_as_table how gave refuses
  as_table how (inr served) refuses = served_as_table how served

module _ (x y : Streams) (v w : DiskView) (f : Image) (t : Table) (shows : ShowsTable f t) (exposed : Exposes v f) (status : ℕ) (how : Ended) (is : status ≡ status_of how) (a : AsTable x y v w f t shows exposed how) where
  abbrev With : ℕ → Type 0
  With n = AnswersAsTable 1099511627776 shows.state.mem (begins_at f t shows) n x y

  -- the same under the status
  pub answered_by : With status
  answered_by = subst With (sym is) a.answers

  pub left_by : (b : With status) × (EndsAtTables b.run b.continued.end w ⊎ HasNotBegun status b.run v w)
  left_by = subst (λ (n : ℕ). (b : With n) × (EndsAtTables b.run b.continued.end w ⊎ HasNotBegun n b.run v w)) (sym is) (a.answers, a.left)

  pub trail_by : (b : With status) × (GoesThroughTables b.run b.continued.end f v w ⊎ HasNotBegun status b.run v w)
  trail_by = subst (λ (n : ℕ). (b : With n) × (GoesThroughTables b.run b.continued.end f v w ⊎ HasNotBegun n b.run v w)) (sym is) (a.answers, a.trail)

-- after a run over a disk that shows a table recovery finds at most two changes fewer in the journal than both its regions
-- take, unless the device or the sink failed, or memory ran out before the store was open
module _ (x y : Streams) (v w : DiskView) (f : Image) (t : Table) (shows : ShowsTable f t) (exposed : Exposes v f) where
  abbrev FindsFew : Image → Type 0
  FindsFew c = (head : Head) × (recover c ≡ Ok (Some head)) × (length head.journal ≤ 2 * head.sb.mem - 2)

  pub finds_few : (how : Ended) → RunOutcome 1099511627776 how (beside x v) (beside y w) → RefusesFor how v w → how ≢ ended.Device → how ≢ ended.Sink → how ≢ ended.NoMemory → (c : Image) → Images w c → FindsFew c
  finds_few how (inr served) refuses device sink memory c image =
      let found = served.left (no_device_at_end how 1099511627776 served.session y.left served.ends device sink) f exposed in
      let there = found.3 t shows in
      (head_held found.0, there.0 c image, there.1)
  finds_few how (inl gave) refuses device sink memory c image = go how gave refuses device memory
    where
      go : (e : Ended) → GaveUp e (beside x v) (beside y w) → RefusesFor e v w → e ≢ ended.Device → e ≢ ended.NoMemory → FindsFew c
      go ended.NoMemory gave refuses device memory = absurd (memory refl)
      go ended.Device gave refuses device memory = absurd (device refl)
      go ended.NotAStore gave refuses device memory =
          let head = finds_head f t shows in
          let e : ◌≡◌ {A = Read (Option Head)} (Ok (Some head.0)) (Ok None) = sym head.1 ∙ finds_none f (refuses.none refl f exposed) in absurd cc
      go (ended.Damaged block) gave refuses device memory =
          let head = finds_head f t shows in
          let e : ◌≡◌ {A = Read (Option Head)} (Ok (Some head.0)) (Err block) = sym head.1 ∙ gave.damaged block refl f exposed in absurd cc
      go ended.Done gave refuses device memory = absurd gave.ends
      go ended.Usage gave refuses device memory = absurd gave.ends
      go ended.FrameTooLong gave refuses device memory = absurd gave.ends
      go ended.Truncated gave refuses device memory = absurd gave.ends
      go ended.Source gave refuses device memory = absurd gave.ends
      go ended.Sink gave refuses device memory = absurd gave.ends
      go ended.Budget gave refuses device memory = absurd gave.ends
      go ended.Unsound gave refuses device memory = absurd gave.ends
      go ended.UnknownVersion gave refuses device memory = absurd gave.ends

-- the ends of a run over a store, one by one
pub found_flat : (status : ℕ) → EndsAsInput status ⊎ (status ≡ 9) → (status ≡ 0) ⊎ (status ≡ 3) ⊎ (status ≡ 4) ⊎ (status ≡ 8) ⊎ (status ≡ 10) ⊎ (status ≡ 9)
found_flat status (inl (inl is)) = inl is
found_flat status (inl (inr (inl is))) = inr (inl is)
found_flat status (inl (inr (inr (inl is)))) = inr (inr (inl is))
found_flat status (inl (inr (inr (inr (inl is))))) = inr (inr (inr (inl is)))
found_flat status (inl (inr (inr (inr (inr is))))) = inr (inr (inr (inr (inl is))))
found_flat status (inr is) = inr (inr (inr (inr (inr is))))

-- nothing is taken or sent where recovery finds no store
module _ (x y : Streams) (v w : DiskView) (f : Image) (exposed : Exposes v f) where
  pub gives_up : (how : Ended) → RunOutcome 1099511627776 how (beside x v) (beside y w) → ((h : Head) → recover f ≢ Ok (Some h)) → (y.left ≡ x.left) × (y.held ≡ x.held)
  gives_up how (inl gave) none = (gave.source, gave.sink)
  gives_up how (inr served) none = absurd (none served.head (served.found f exposed))

-- a run out of memory, or over no store, leaves all as it was
pub gave_for : (how : Ended) (x y : Streams) (v w : DiskView) → RunOutcome 1099511627776 how (beside x v) (beside y w) → (how ≡ ended.NotAStore) ⊎ (how ≡ ended.NoMemory)
    → (y.left ≡ x.left) × (y.held ≡ x.held) × (w.content ≡ v.content) × KeepsImages v w
gave_for how x y v w (inl gave) is =
    let kept = gave.kept (λ device. elim is [
      | inl store ↦ let e : ended.NotAStore ≡ ended.Device = sym store ∙ device in cc
      | inr memory ↦ let e : ended.NoMemory ≡ ended.Device = sym memory ∙ device in cc
    ]) in
    (gave.source, gave.sink, kept.0, kept.1)
gave_for how x y v w (inr served) (inl store) = absurd (subst (λ (e : Ended). EndsFor e 1099511627776 served.session y.left) store served.ends)
gave_for how x y v w (inr served) (inr memory) = absurd (subst (λ (e : Ended). EndsFor e 1099511627776 served.session y.left) memory served.ends)

-- each image of a run whose device failed before a store was open is one of before, or differs in a gate alone
opening_left : (v w : DiskView) (f : Image) → LeavesOpening v w f → (c : Image) → Since w v.moment c
    → Images v c ⊎ ((slot : ℕ) × (sb : Super) × (newest_in f ≡ Ok (Some (slot, sb))) × Outside (region_at sb.mem (other_region sb.region)) 1 f c)
opening_left v w f (inl same) c since = inl (same.1.each c since)
opening_left v w f (inr stops) c since = elim (stops.gate.images c since) [
  | inl was ↦ inl was
  | inr gate ↦ inr (stops.slot, stops.sb, stops.gate.newest, gate)
]

pub gave_device : (how : Ended) (x y : Streams) (v w : DiskView) (f : Image) → Exposes v f → RunOutcome 1099511627776 how (beside x v) (beside y w) → how ≡ ended.Device
    → ((head : Head) × (recover f ≡ Ok (Some head)))
    ⊎ ((y.left ≡ x.left) × (y.held ≡ x.held) × ((c : Image) → Since w v.moment c
    → Images v c ⊎ ((slot : ℕ) × (sb : Super) × (newest_in f ≡ Ok (Some (slot, sb))) × Outside (region_at sb.mem (other_region sb.region)) 1 f c)))
gave_device how x y v w f exposed (inl gave) is = inr (gave.source, gave.sink, opening_left v w f (gave.failed is f exposed))
gave_device how x y v w f exposed (inr served) is = inl (served.head, served.found f exposed)
