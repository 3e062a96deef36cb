use Rattle.std.proofs.Common.{◌≡◌, ◌+◌, length, refl, sym, ap, ◌∙◌, subst}
use Rattle.strat_base.specs.Entries.{Entry}
use Rattle.strat_base.specs.EntryView.{val_of}
use Rattle.strat_arena.specs.ArenaView.{KeyValue}
use Rattle.strat_arena.specs.declared.items.Item.{Item}
use Rattle.def_state.specs.Setting.{set_entry}
use Rattle.strat_level.specs.Memtable.{ItemList, Memtable, entries_held, ListStands}
use Rattle.strat_level.proofs.PutLemmas.{others_stand, own_put, own_pushed, own_makes, put_stands, room_left, size_fits}
use Rattle.strat_level.proofs.zero.Zero.put.Goals as goal

-- the list before, as its fields have it
list_is : (c : goal.After-self-1) → c.self.inside.list ≡ c.args.self.now.list
list_is c = ap (λ (m : Memtable). m.list) c.self.view_is

pub returns-clause-same : goal.returns-clause-same
returns-clause-same c = (
  (λ m apart. c.push-slot.ensures.same m (λ e. apart (e ∙ c.arena-arena.ensures.ok ∙ ap (λ (l : ItemList). l.arena) (list_is c)))),
  others_stand c.args.pool.now c.push-slot.new.self c.arena-arena.result (record { key = c.args.key.now; value = c.stored-gone.result.0.now })
      (record { pairs = c.push-slot.ensures.ok; shares = c.push-slot.ensures.kept.0; beside = c.push-slot.ensures.same }),
)

stands : (c : goal.After-self-1) → ListStands c.args.pool.now c.self.inside.list
stands c = subst (λ (l : ItemList). ListStands c.args.pool.now l) (sym (list_is c)) c.requires.kept.list

abbrev pair : goal.After-self-1 → KeyValue
pair c = record { key = c.args.key.now; value = c.stored-gone.result.0.now }

abbrev item : goal.After-self-1 → Item
item c = record { slot = c.push-slot.result; version = c.args.version; gone = c.stored-gone.result.1 }

abbrev entry : goal.After-self-1 → Entry
entry c = record { key = c.args.key.now; version = c.args.version; value = val_of c.args.val }

done : (c : goal.After-self-1) → ListStands c.push-slot.new.self c.put_at.new.self × (entries_held c.push-slot.new.self c.put_at.new.self ≡ set_entry (entry c) (entries_held c.args.pool.now c.self.inside.list))
unfolding stands
done c =
    put_stands c.args.pool.now c.push-slot.new.self (pair c) c.self.inside.list c.put_at.new.self (entry c) (item c) (stands c)
    (own_pushed c.args.pool.now c.push-slot.new.self c.arena-arena.result (pair c) c.self.inside.list c.arena-arena.ensures.ok
    (record { pairs = c.push-slot.ensures.ok; shares = c.push-slot.ensures.kept.0; beside = c.push-slot.ensures.same }))
    (own_makes c.args.pool.now c.arena-arena.result (pair c) (item c) (entry c) c.self.inside.list c.arena-arena.ensures.ok
    (record { slot = c.push-slot.ensures.found; key = refl; version = refl; value = c.stored-gone.ensures.ok }))
    c.requires.fits
    c.place_of-place.result
    (own_put c.args.pool.now c.arena-arena.result c.items.result.now c.self.inside.list c.put_at.new.self (entry c) (item c) c.place_of-place.result c.arena-arena.ensures.ok c.items.ensures.ok
    (record { found = c.place_of-place.ensures.ok; between = c.place_of-place.ensures.err; over = c.put_at.ensures.ok; beside = c.put_at.ensures.err; stays = c.put_at.ensures.same }))

pub returns-clause-ok : goal.returns-clause-ok
returns-clause-ok c =
    (done c).1 ∙ ap (λ (l : ItemList). set_entry (entry c) (entries_held c.args.pool.now l)) (list_is c)

pub returns-clause-kept : goal.returns-clause-kept
returns-clause-kept c =
    let size = size_fits (entry c) (length c.stored-gone.result.0.now) c.requires.fits c.stored-gone.ensures.fits in
    let room = room_left c.args.pool.now c.push-slot.new.self c.arena-arena.result c.args.self.now.list.arena c.put_at.new.self.arena c.args.self.now.spare c.self.inside.spare (length c.args.key.now + length c.stored-gone.result.0.now)
    (c.arena-arena.ensures.ok ∙ ap (λ (l : ItemList). l.arena) (list_is c)) (c.arena-arena.ensures.ok ∙ sym c.put_at.ensures.same) (ap (λ (m : Memtable). m.spare) c.self.view_is) c.requires.room size
    c.requires.kept.pairs_room c.requires.kept.bytes_room c.push-slot.ensures.room c.push-slot.ensures.fits in
    record { list = (done c).0; pairs_room = room.0; bytes_room = room.1 }
