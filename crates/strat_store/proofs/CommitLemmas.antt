-- Staged changes that become durable: what the disk then has, and that the store stands on it.
use Rattle.std.proofs.Common.{◌≡◌, ◌<◌, ◌≤◌, ◌+◌, ℕ, Bool, true, false, inl, List, length, Some, Ok, refl, sym, ap, ◌∙◌, subst, arith}
use Rattle.def_crash.specs.Blocks.{AgreeOn, KeepsTaken}
use Rattle.def_crash.specs.Image.{Image}
use Rattle.def_crash.specs.Moments.{DiskView, Exposes}
use Rattle.strat_journal.specs.Log.{HoldsBatch, Log, Stands, batch_joined, batch_region}
use Rattle.strat_model.specs.Table.{Cursor}
use Rattle.strat_model.specs.declared.replies.Refusal.TheVariants as why
use Rattle.strat_model.specs.declared.replies.Reply.TheVariants as reply
use Rattle.def_publish.specs.Appending.{AppendsBatch, with_batch}
use Rattle.def_publish.specs.Contents.{Contents, contents_state}
use Rattle.def_publish.specs.Standing.{ContentsStand, LeavesContent}
use Rattle.def_publish.proofs.AppendLemmas.{appended_stands, appended_trail, either_trail, stands_journal}
use Rattle.def_publish.proofs.BatchLemmas.{batch_sound}
use Rattle.def_state.specs.Sound.{IsSound}
use Rattle.def_state.specs.State.{IsPaid}
use Rattle.strat_memory.specs.Held.{Held, IsConsistent, IsOnDisk, IsOpenAt, StandsAt, StandsWith, arrays_held}
use Rattle.strat_memory.specs.Paying.{ArePaidSince}
use Rattle.strat_promote.specs.Job.{blocks_listed}
use Rattle.strat_publish.specs.Publishing.{is_in_front}
use Rattle.strat_publish.specs.Settling.{HaveOldOrNext, KeepsPublished, LeavesPublished}
use Rattle.strat_store.specs.Staging.{FollowsBatch, held_joined}
use Rattle.strat_store.proofs.AppliedLemmas.{going_kept, rows_kept}
use Rattle.strat_store.proofs.ChangingLemmas.{cached_behind}
use Rattle.strat_store.proofs.GoingLemmas.{none_open, open_none}
use Rattle.strat_store.proofs.LeavingLemmas.{front_keeps, leaves_room, logged_leaves}
use Rattle.strat_store.proofs.LoggingLemmas.{appended_behind, batch_low, batch_paid, batch_super, taking_here}
use Rattle.strat_store.proofs.StagingLemmas.{staged_log, takes_batch}

-- a store whose staged changes were appended, or were to be
module _ (old new : DiskView) (s : Held) (whole : IsConsistent (held_joined s)) (some : 0 < length s.log.batch) (fits : length s.log.list + length s.log.batch ≤ s.log.mem) (appends : AppendsBatch old new s.log) where
  room : length s.log.list < s.log.mem
  room = omega (arith, some, fits)

  active : s.log.active ≤ 1
  active = omega (arith, whole.log.active, whole.lawful.region_most)

  -- superblock and manifest are on the disk as they were, where all behind the journal stays
  commit_on : (t : Held) → KeepsPublished s t → t.promoting ≡ s.promoting → ((f g : Image) → Exposes old f → Exposes new g → KeepsTaken (is_in_front s.sb.mem) f g) → IsOnDisk old s → IsOnDisk new t
  commit_on t same going keeps on =
      let then : KeepsPublished (held_joined s) t = record { slot = same.slot; sb = same.sb; chained = same.chained; levels = same.levels; filters = same.filters } in
      let first : IsOnDisk old (held_joined s) = record { content = on.content; exposed = on.exposed; newest = on.newest; chain = on.chain; read = on.read } in
      logged_leaves old new (held_joined s) t (batch_region s.log) whole (batch_low s.log active) then going appends.images appends.time keeps first

  module _ (x : Contents) (stands : StandsWith old s x) where
    sound : IsSound (contents_state (with_batch x s.log.batch))
    sound = batch_sound x s.log.batch (takes_batch old s x whole stands)

    -- each image shows the table of before, or that with the batch
    pub commit_either : FollowsBatch old new x s.log.batch false
    commit_either = either_trail old new x s.log stands.stands (staged_log old s x whole stands) appends sound

    commit_paid : IsPaid (contents_state x) → ArePaidSince new old.moment
    commit_paid = batch_paid old new x s.log stands.stands (staged_log old s x whole stands) appends sound

    commit_pays : (IsPaid (contents_state x) → ArePaidSince new old.moment) × HaveOldOrNext new old.moment s.slot s.sb
    commit_pays = (
      commit_paid,
      λ c since. inl (batch_super old new x s.log stands.stands (staged_log old s x whole stands) appends sound c since ∙ ap (λ (y : Contents). Ok (Some (y.slot, y.sb))) stands.held),
    )

    -- where it became durable the contents with the batch stand
    module _ (log : Log) (joins : log ≡ batch_joined s.log) (kept : (f : Image) → Exposes old f → Stands old s.log → Stands new log) where
      done : Stands new (batch_joined s.log)
      done = subst (λ (j : Log). Stands new j) joins (kept stands.stands.content stands.stands.exposed (stands_journal old x s.log stands.stands (staged_log old s x whole stands)))

      pub commit_trail : FollowsBatch old new x s.log.batch true
      commit_trail = appended_trail old new x s.log stands.stands (staged_log old s x whole stands) appends sound done

      pub commit_stands : LeavesContent new → ContentsStand new (with_batch x s.log.batch)
      commit_stands leaves = appended_stands old new x s.log stands.stands (staged_log old s x whole stands) appends sound done leaves

  -- what is left where the device failed
  pub commit_failed : (t : Held) (b : Bool) → KeepsPublished s t → t.promoting ≡ s.promoting → LeavesPublished old new s false (reply.Refused why.DeviceFault) (record t { spent = b })
  commit_failed t b same going = leaves_room old new s t false (reply.Refused why.DeviceFault) b room same going (λ other. absurd (other refl)) commit_pays (λ other. absurd (other refl))

  -- and where the batch is durable
  module _ (holds : HoldsBatch old new s.log) where
    behind : (f g : Image) → Exposes old f → Exposes new g → KeepsTaken (is_in_front s.sb.mem) f g
    behind f g told now =
        subst (λ (n : ℕ). KeepsTaken (is_in_front n) f g) whole.log.mem
        (appended_behind old new s.log whole.log.lawful (taking_here s.log (length s.log.batch) some fits) active holds f g told now)

    agree : (f g : Image) → Exposes old f → Exposes new g → AgreeOn (blocks_listed (arrays_held s.memory s.levels)) f g
    agree = front_keeps old new (held_joined s) whole behind

    pub commit_leaves : (t : Held) (b : Bool) → KeepsPublished s t → t.promoting ≡ s.promoting → LeavesPublished old new s true reply.Done (record t { spent = b })
    commit_leaves t b same going = leaves_room old new s t true reply.Done b room same going (λ other. commit_on t same going behind) commit_pays (λ other. agree)

    -- the store stands with the batch in its journal
    pub commit_at : (x : Contents) (rows : List Cursor) → ContentsStand new (with_batch x s.log.batch) → StandsAt old s x rows → StandsAt new (held_joined s) (with_batch x s.log.batch) rows
    commit_at x rows now at =
        let f = at.stands.stands.content in
        let g = now.content in
        let same = agree f g at.stands.stands.exposed now.exposed in
        record {
          stands = record {
            stands = now;
            held = ap (λ (z : Contents). with_batch z s.log.batch) at.stands.held;
            cached = cached_behind f g (held_joined s) whole (behind f g at.stands.stands.exposed now.exposed) at.stands.cached;
            filtered = at.stands.filtered;
            open_over = open_none s.promoting (IsOpenAt g (held_joined s) (with_batch x s.log.batch) (length (held_joined s).log.list))
                (none_open f s x (length s.log.list) s.promoting (subst (λ (z : Contents). length z.journal < z.sb.mem) (sym at.stands.held) (omega (arith, room, whole.log.mem))) at.stands.open_over);
          };
          rows_are = rows_kept f g (held_joined s) whole same rows at.rows_are;
          going = λ k of. going_kept f g (held_joined s) whole same k of (at.going k of);
        }
