-- How a run ends where nothing failed.
use Rattle.std.proofs.Common.{◌≡◌, ◌⊎◌, ℕ, [], Option, Some, None, refl, sym, ap, subst, ◌∙◌, inl, inr, arith}
use Rattle.std.specs.Prelude.{Ok, Err, IfSome, option_map}
use Rattle.def_bytes.specs.Damage.{Read, and_then}
use Rattle.strat_base.specs.declared.failures.Fault.{Fault}
use Rattle.strat_base.specs.declared.failures.Fault.TheVariants as fault
use Rattle.def_crash.specs.Faults.{Rose}
use Rattle.def_crash.specs.Image.{Image}
use Rattle.def_crash.specs.Moments.{DiskView}
use Rattle.def_bytes.specs.SuperBlock.{Super, newest_in}
use Rattle.strat_model.specs.Faults.{fault_told}
use Rattle.strat_model.specs.declared.ended.Ended.{Ended}
use Rattle.strat_model.specs.declared.ended.Ended.TheVariants as ended
use Rattle.strat_model.specs.Ended.{status_of}
use Rattle.strat_model.specs.Answer.{Answer, refusal}
use Rattle.strat_model.specs.declared.replies.Refusal.TheVariants as why
use Rattle.strat_model.specs.Run.{Response}
use Rattle.strat_model.specs.Table.{Table}
use Rattle.def_recovery.specs.Head.{Head}
use Rattle.def_publish.specs.Contents.{contents_head}
use Rattle.def_publish.specs.Standing.{ShowsTable}
use Rattle.def_publish.proofs.PartsLemmas.{reads_head, state_parts}
use Rattle.def_recovery.specs.Opening.{recover, recover_slot}
use Rattle.strat_loop.specs.Session.{GaveUp, IsEarlyEnd, RefusesFor, EndHasCause, EndsWithFault, EndsFor}
use Rattle.strat_loop.specs.Session.{Session}
use Rattle.strat_loop.specs.Speech.{Said, Speech, response_of}
use Rattle.strat_loop.specs.Spoken.{ServedBy, SpokenOutcome, session_of}
use Rattle.strat_follow.specs.Leading.{LeadOutcome}
use Rattle.strat_follow.specs.Leads.{leads}
use Rattle.strat_serve.specs.Serving.{RunOutcome}
use Rattle.castle.specs.Outcomes.{EndsAsInput, EndsAsFound, IsEarly}
use Rattle.strat_loop.specs.World.{World}

-- what is read cannot be two things
two_reads : (r : Read (Option Head)) (x y : Read (Option Head)) → r ≡ x → r ≡ y → x ≡ y
two_reads r x y e f = sym e ∙ f

-- where no slot is open an opening finds nothing
pub finds_none : (f : Image) → newest_in f ≡ Ok None → recover f ≡ Ok None
finds_none f none = ap (λ (r : Read (Option (ℕ × Super))). and_then r (recover_slot f)) none

-- where an image shows a table an opening finds its head
pub finds_head : (f : Image) (t : Table) → ShowsTable f t → (h : Head) × (recover f ≡ Ok (Some h))
finds_head f t shows = let parts = state_parts f shows.state shows.reads in (contents_head parts.contents, reads_head f parts.contents parts.reads)

-- what is known of the end of a run that opened its store
pub record Finished (budget : ℕ) (how : Ended) (before now : World) : Type 0 where
  pub head : Head
  pub found : (f : Image) → before.disk.content ≡ Some f → recover f ≡ Ok (Some head)
  pub session : Session
  pub ends : EndsFor how budget session now.left
  pub device : (f : Image) (t : Table) → before.disk.content ≡ Some f → ShowsTable f t → IfSome session.broken (λ (r : Response). r.answer ≡ refusal why.DeviceFault)

-- how a run ended, whether it opened its store or gave up
abbrev pub Outcome : ℕ → Ended → World → World → Type 0
Outcome budget how before now = GaveUp how before now ⊎ Finished budget how before now

pub of_run : (budget : ℕ) (how : Ended) (before now : World) → RunOutcome budget how before now → Outcome budget how before now
of_run budget how before now (inl gave) = inl gave
of_run budget how before now (inr served) = inr (record {
  head = served.head;
  found = served.found;
  session = served.session;
  ends = served.ends;
  device = λ f t exposed shows. (served.follows f t exposed shows).device;
})

told_device : (o : Option Said) → IfSome o (λ (r : Said). r.answer ≡ refusal why.DeviceFault) → IfSome (option_map response_of o) (λ (r : Response). r.answer ≡ refusal why.DeviceFault)
told_device None device = tt
told_device (Some said) device = device

of_served : (speech : Speech) (budget : ℕ) (how : Ended) (before now : World) → ServedBy speech budget how before now → Finished budget how before now
of_served speech budget how before now served = record {
  head = served.head;
  found = served.found;
  session = session_of served.sitting;
  ends = served.ends;
  device = λ f t exposed shows. told_device served.sitting.broken (served.follows f t exposed shows).device;
}

pub of_spoken : (speech : Speech) (budget : ℕ) (how : Ended) (before now : World) → SpokenOutcome speech budget how before now → Outcome budget how before now
of_spoken speech budget how before now (inl gave) = inl gave
of_spoken speech budget how before now (inr served) = inr (of_served speech budget how before now served)

-- the sink failed at the changes of the journal
stopped : (budget : ℕ) (how : Ended) (before now : World) (head : Head) → ((f : Image) → before.disk.content ≡ Some f → recover f ≡ Ok (Some head)) → how ≡ ended.Sink → Finished budget how before now
stopped budget how before now head found is =
    let none : Session = record { taken = []; bodies = []; rest = []; answers = []; broken = None } in
    record { head = head; found = found; session = none; ends = subst (λ (e : Ended). EndsFor e budget none now.left) (sym is) tt; device = λ f t exposed shows. tt }

pub of_lead : (budget : ℕ) (how : Ended) (before now : World) → LeadOutcome budget how before now → Outcome budget how before now
of_lead budget how before now (inl gave) = inl gave
of_lead budget how before now (inr (inl stop)) = inr (stopped budget how before now stop.head stop.found stop.ends)
of_lead budget how before now (inr (inr on)) =
    let served = of_served leads budget how (record before { held = on.held }) now on.served in
    inr (record { head = served.head; found = served.found; session = served.session; ends = served.ends; device = served.device })

-- no response tells of a damaged block and of the device
told_twice : (broken : Option Response) (block : ℕ) → IfSome broken (λ (r : Response). r.answer ≡ refusal why.DeviceFault) → EndsWithFault broken (fault.Damaged block) → ⊥
told_twice None block device ends = absurd ends
told_twice (Some r) block device ends =
    let f : ◌≡◌ {A = Option Fault} (Some fault.Device) (Some (fault.Damaged block)) = sym (ap (λ (a : Answer). fault_told a.reply) device) ∙ ends in cc

-- where no status is that of a fault a run that served ends as its input does, unless it met a damaged block
served_ends : (budget : ℕ) (how : Ended) (before now : World) → Finished budget how before now → EndHasCause how before now
    → ¬ Rose before.source_faults now.source_faults → ¬ Rose before.sink_faults now.sink_faults → ¬ Rose before.disk_faults now.disk_faults
    → EndsAsInput (status_of how) ⊎ ((block : ℕ) × (how ≡ ended.Damaged block))
served_ends budget ended.Done a b served cause source sink disk = inl (inl refl)
served_ends budget ended.FrameTooLong a b served cause source sink disk = inl (inr (inl refl))
served_ends budget ended.Truncated a b served cause source sink disk = inl (inr (inr (inl refl)))
served_ends budget ended.Budget a b served cause source sink disk = inl (inr (inr (inr (inr refl))))
served_ends budget ended.Source a b served cause source sink disk = absurd (source (cause.source refl))
served_ends budget ended.Sink a b served cause source sink disk = absurd (sink (cause.sink refl))
served_ends budget ended.Device a b served cause source sink disk = absurd (disk (cause.device refl))
served_ends budget (ended.Damaged block) a b served cause source sink disk = inr (block, refl)
served_ends budget ended.Usage a b served cause source sink disk = absurd served.ends
served_ends budget ended.NotAStore a b served cause source sink disk = absurd served.ends
served_ends budget ended.NoMemory a b served cause source sink disk = absurd served.ends
served_ends budget ended.Unsound a b served cause source sink disk = absurd served.ends
served_ends budget ended.UnknownVersion a b served cause source sink disk = absurd served.ends

-- and one that gave up ends as the opening says, or for want of memory
gave_up_ends : (how : Ended) (before now : World) (f : Image) (r : Read (Option Head)) → GaveUp how before now → RefusesFor how before.disk now.disk → EndHasCause how before now
    → ¬ Rose before.disk_faults now.disk_faults → before.disk.content ≡ Some f → recover f ≡ r → EndsAsFound r (status_of how)
gave_up_ends ended.NotAStore a b f r gave refuses cause disk exposed found =
    subst (λ (x : Read (Option Head)). EndsAsFound x 2) (two_reads (recover f) _ r (finds_none f (refuses.none refl f exposed)) found) (inl refl)
gave_up_ends (ended.Damaged block) a b f r gave refuses cause disk exposed found =
    subst (λ (x : Read (Option Head)). EndsAsFound x 9) (two_reads (recover f) _ r (gave.damaged block refl f exposed) found) (inl refl)
gave_up_ends ended.NoMemory a b f (Ok (Some h)) gave refuses cause disk exposed found = inl (inr (inr (inr (inl refl))))
gave_up_ends ended.NoMemory a b f (Ok None) gave refuses cause disk exposed found = inr refl
gave_up_ends ended.NoMemory a b f (Err block) gave refuses cause disk exposed found = inr refl
gave_up_ends ended.Device a b f r gave refuses cause disk exposed found = absurd (disk (cause.device refl))
gave_up_ends ended.Done a b f r gave refuses cause disk exposed found = absurd gave.ends
gave_up_ends ended.Usage a b f r gave refuses cause disk exposed found = absurd gave.ends
gave_up_ends ended.FrameTooLong a b f r gave refuses cause disk exposed found = absurd gave.ends
gave_up_ends ended.Truncated a b f r gave refuses cause disk exposed found = absurd gave.ends
gave_up_ends ended.Source a b f r gave refuses cause disk exposed found = absurd gave.ends
gave_up_ends ended.Sink a b f r gave refuses cause disk exposed found = absurd gave.ends
gave_up_ends ended.Budget a b f r gave refuses cause disk exposed found = absurd gave.ends
gave_up_ends ended.Unsound a b f r gave refuses cause disk exposed found = absurd gave.ends
gave_up_ends ended.UnknownVersion a b f r gave refuses cause disk exposed found = absurd gave.ends

-- where neither the source, the sink nor the disk failed, a run ends as what an opening finds says
pub completes : (budget : ℕ) (how : Ended) (before now : World) (f : Image) → Outcome budget how before now → RefusesFor how before.disk now.disk → EndHasCause how before now
    → ¬ Rose before.source_faults now.source_faults → ¬ Rose before.sink_faults now.sink_faults → ¬ Rose before.disk_faults now.disk_faults
    → before.disk.content ≡ Some f → EndsAsFound (recover f) (status_of how)
completes budget how before now f (inl gave) refuses cause source sink disk exposed = gave_up_ends how before now f (recover f) gave refuses cause disk exposed refl
completes budget how before now f (inr served) refuses cause source sink disk exposed =
    subst (λ (x : Read (Option Head)). EndsAsFound x (status_of how)) (sym (served.found f exposed))
    (elim (served_ends budget how before now served cause source sink disk) [
      | inl ends ↦ inl ends
      | inr damaged ↦ inr (ap status_of damaged.1)
    ])

-- a run that gave up over an image that shows a table had no memory
gave_up_sound : (how : Ended) (status : ℕ) (h : Head) → status_of how ≡ status → ((block : ℕ) → how ≡ ended.Damaged block → ⊥) → EndsAsInput status ⊎ (status ≡ 9) → EndsAsInput status
gave_up_sound how status h is calm (inl ends) = ends
gave_up_sound how status h is calm (inr nine) = absurd (go how (is ∙ nine) calm)
  where
    go : (e : Ended) → status_of e ≡ 9 → ((block : ℕ) → e ≡ ended.Damaged block → ⊥) → ⊥
    go (ended.Damaged block) e calm = calm block refl
    go ended.NotAStore e calm = omega (arith, e)
    go ended.NoMemory e calm = omega (arith, e)
    go ended.Done e calm = omega (arith, e)
    go ended.Usage e calm = omega (arith, e)
    go ended.FrameTooLong e calm = omega (arith, e)
    go ended.Truncated e calm = omega (arith, e)
    go ended.Device e calm = omega (arith, e)
    go ended.Source e calm = omega (arith, e)
    go ended.Sink e calm = omega (arith, e)
    go ended.Budget e calm = omega (arith, e)
    go ended.Unsound e calm = omega (arith, e)
    go ended.UnknownVersion e calm = omega (arith, e)

-- a run over an image that shows a table ends at no damaged block
pub never_damaged : (budget : ℕ) (how : Ended) (before now : World) (f : Image) (t : Table) → Outcome budget how before now → before.disk.content ≡ Some f → ShowsTable f t
    → (block : ℕ) → how ≡ ended.Damaged block → ⊥
never_damaged budget how before now f t (inl gave) exposed shows block is =
    let head = finds_head f t shows in
    let x : ◌≡◌ {A = Read (Option Head)} (Ok (Some head.0)) (Err block) = sym head.1 ∙ gave.damaged block is f exposed in cc
never_damaged budget how before now f t (inr served) exposed shows block is =
    let ends : EndsWithFault served.session.broken (fault.Damaged block) = subst (λ (e : Ended). EndsFor e budget served.session now.left) is served.ends in
    told_twice served.session.broken block (served.device f t exposed shows) ends

-- where nothing failed and the content shows a table, a run ends as its input does or out of memory
pub completes_sound : (budget : ℕ) (how : Ended) (before now : World) (f : Image) (t : Table) → Outcome budget how before now → RefusesFor how before.disk now.disk → EndHasCause how before now
    → ¬ Rose before.source_faults now.source_faults → ¬ Rose before.sink_faults now.sink_faults → ¬ Rose before.disk_faults now.disk_faults
    → before.disk.content ≡ Some f → ShowsTable f t → EndsAsInput (status_of how)
completes_sound budget how before now f t outcome refuses cause source sink disk exposed shows =
    let head = finds_head f t shows in
    let ends : EndsAsFound (Ok (Some head.0)) (status_of how) =
    subst (λ (x : Read (Option Head)). EndsAsFound x (status_of how)) head.1 (completes budget how before now f outcome refuses cause source sink disk exposed) in
    gave_up_sound how (status_of how) head.0 refl (never_damaged budget how before now f t outcome exposed shows) ends

-- a run with such a status gave up before it read
pub gave_up_by : (how : Ended) (before : DiskView) → IsEarly before (status_of how) → IsEarlyEnd how before
gave_up_by ended.NotAStore before is = tt
gave_up_by ended.NoMemory before is = tt
gave_up_by (ended.Damaged block) before (inl two) = absurd (omega (arith, two))
gave_up_by (ended.Damaged block) before (inr (inl eight)) = absurd (omega (arith, eight))
gave_up_by (ended.Damaged block) before (inr (inr nine)) = nine.1
gave_up_by ended.Done before (inl two) = absurd (omega (arith, two))
gave_up_by ended.Done before (inr (inl eight)) = absurd (omega (arith, eight))
gave_up_by ended.Done before (inr (inr nine)) = absurd (omega (arith, nine.0))
gave_up_by ended.Usage before (inl two) = absurd (omega (arith, two))
gave_up_by ended.Usage before (inr (inl eight)) = absurd (omega (arith, eight))
gave_up_by ended.Usage before (inr (inr nine)) = absurd (omega (arith, nine.0))
gave_up_by ended.FrameTooLong before (inl two) = absurd (omega (arith, two))
gave_up_by ended.FrameTooLong before (inr (inl eight)) = absurd (omega (arith, eight))
gave_up_by ended.FrameTooLong before (inr (inr nine)) = absurd (omega (arith, nine.0))
gave_up_by ended.Truncated before (inl two) = absurd (omega (arith, two))
gave_up_by ended.Truncated before (inr (inl eight)) = absurd (omega (arith, eight))
gave_up_by ended.Truncated before (inr (inr nine)) = absurd (omega (arith, nine.0))
gave_up_by ended.Device before (inl two) = absurd (omega (arith, two))
gave_up_by ended.Device before (inr (inl eight)) = absurd (omega (arith, eight))
gave_up_by ended.Device before (inr (inr nine)) = absurd (omega (arith, nine.0))
gave_up_by ended.Source before (inl two) = absurd (omega (arith, two))
gave_up_by ended.Source before (inr (inl eight)) = absurd (omega (arith, eight))
gave_up_by ended.Source before (inr (inr nine)) = absurd (omega (arith, nine.0))
gave_up_by ended.Sink before (inl two) = absurd (omega (arith, two))
gave_up_by ended.Sink before (inr (inl eight)) = absurd (omega (arith, eight))
gave_up_by ended.Sink before (inr (inr nine)) = absurd (omega (arith, nine.0))
gave_up_by ended.Budget before (inl two) = absurd (omega (arith, two))
gave_up_by ended.Budget before (inr (inl eight)) = absurd (omega (arith, eight))
gave_up_by ended.Budget before (inr (inr nine)) = absurd (omega (arith, nine.0))
gave_up_by ended.Unsound before (inl two) = absurd (omega (arith, two))
gave_up_by ended.Unsound before (inr (inl eight)) = absurd (omega (arith, eight))
gave_up_by ended.Unsound before (inr (inr nine)) = absurd (omega (arith, nine.0))
gave_up_by ended.UnknownVersion before (inl two) = absurd (omega (arith, two))
gave_up_by ended.UnknownVersion before (inr (inl eight)) = absurd (omega (arith, eight))
gave_up_by ended.UnknownVersion before (inr (inr nine)) = absurd (omega (arith, nine.0))
