-- Changes that a serving run stages one after the other, to make them durable together.
use Rattle.std.specs.Prelude.{◌≡◌, ◌⊎◌, ℕ, true, List, [], ◌∷◌, ◌++◌, length, Some, None, slice_get}
use Rattle.std.specs.List.{flat_map, AllByRecursion}
use Rattle.strat_base.specs.Change.{Change}
use Rattle.strat_frame.specs.Deframing.{Deframing}
use Rattle.strat_frame.specs.declared.deframer.Next.{Next}
use Rattle.strat_model.specs.Answer.{plain}
use Rattle.strat_model.specs.Request.{Request}
use Rattle.strat_model.specs.Stream.{frame, IsBody}
use Rattle.strat_model.specs.declared.replies.Reply.{Reply}
use Rattle.strat_model.specs.declared.replies.Reply.TheVariants as reply
use Rattle.strat_memory.specs.Held.{Held}
use Rattle.strat_memory.specs.Memory.{KeepsRows, memory_after}
use Rattle.strat_store.specs.Applying.{change_wanted}
use Rattle.strat_store.specs.Staging.{IsStaged, may_stage, replies_staged, with_staged}
use Rattle.strat_loop.specs.Progress.{waiting, Meets}
use Rattle.strat_loop.specs.Speech.{Said, Speech, IsAskedFor, IsDeclined, said_bytes}

-- a reply tells that a change was made
abbrev pub TellsMade : Reply → Type 0
TellsMade told = (told ≡ reply.Done) ⊎ ((version : ℕ) × (told ≡ reply.Made version))

-- a body asks a store for no change: for nothing, or for something else
abbrev pub AsksNoChange : Speech → ℕ → List ℕ → Type 0
AsksNoChange speech changes body =
    ((said : Said) × IsDeclined speech changes body said)
    ⊎ ((tag : ℕ) × (request : Request) × speech.Asks changes body tag request
    × (change_wanted request ≡ None))

-- a body asks for a change that a store staged, and what is said tells what is kept for it
pub record StagesBody (speech : Speech) (old : Held) (body : List ℕ) (said : Said) (new : Held)
    : Type 0 where
  pub request : Request
  pub asked : IsAskedFor speech old.memory.changes body request said
  pub change : Change
  pub wanted : change_wanted request ≡ Some change
  pub may : may_stage old request ≡ true
  pub staged : IsStaged old
  pub rows : KeepsRows old.memory (memory_after old.memory change)
  pub after : new ≡ with_staged old change
  pub told : Reply
  pub kept : slice_get (replies_staged new) (length old.log.batch) ≡ Some told
  pub answer : said.answer ≡ plain told

-- so it is with bodies one after the other
abbrev pub StagesBodies : Speech → Held → List (List ℕ) → List Said → Held → Type 0
StagesBodies speech old [] [] new = new ≡ old
StagesBodies speech old (body ∷ bodies) (said ∷ more) new =
    (mid : Held) × StagesBody speech old body said mid × StagesBodies speech mid bodies more new
StagesBodies speech old _ _ new = ⊥

-- bodies were taken from the front of the bytes held and staged, up to what was met then, and what is said to them added to
-- what waits
pub record GathersBatch (speech : Speech) (old new : Held) (before after : Deframing) (met : Next)
    (was now : List ℕ) : Type 0 where
  pub bodies : List (List ℕ)
  pub responses : List Said
  pub stages : StagesBodies speech old bodies responses new
  pub each : AllByRecursion IsBody bodies
  pub parts : before.held ≡ flat_map frame bodies ++ waiting met after
  pub meets : Meets met after
  pub text : now ≡ was ++ said_bytes responses
