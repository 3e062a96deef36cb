-- A store with open cursors, as it answers a command.
use Rattle.std.proofs.Common.{◌≡◌, ◌≢◌, ◌<◌, ◌+◌, ℕ, Bool, true, false, eqb, not, inl, inr, ◌⊎◌, if◌then◌else◌, List, [], ◌∷◌, ◌++◌, length, Contains, flat_map, Option, Some, None, Result, Ok, Err, refl, sym, ap, subst, ◌∙◌, arith, true≢false}
use Rattle.std.specs.Prelude.{IfOk, IfSome, OnErr, IsErrOf, filter, find, ◌↔◌}
use Rattle.std.specs.List.{list_any, slice_get}
use Rattle.std.specs.Option.{option_map_or}
use Rattle.std.proofs.lemmas.Bool.{eqb-true, eq-eqb, ne_eqb}
use Rattle.std.proofs.lemmas.List.Elements.{Contains-append_left}
use Rattle.strat_array.specs.Kept.{Blocks, IsBlockRead}
use Rattle.strat_array.specs.Told.{TheirPairs}
use Rattle.strat_base.proofs.ListFacts.{among_flat, among_in_flat, among_split, any_among, any_from, find_none}
use Rattle.strat_base.specs.Entries.{Entry}
use Rattle.strat_base.specs.declared.descriptors.ArrayDesc.{ArrayDesc}
use Rattle.strat_base.specs.declared.descriptors.LevelDesc.{LevelDesc}
use Rattle.def_crash.specs.Blocks.{AgreeOn}
use Rattle.def_crash.specs.Faults.{HasCause}
use Rattle.def_crash.specs.Image.{Image}
use Rattle.def_crash.specs.Moments.{DiskView, Exposes}
use Rattle.strat_cursor.proofs.HoldingLemmas.{asked_may_go_on, goes_on_moved, goes_on_without}
use Rattle.strat_cursor.proofs.TableRows.{rows_length, rows_less, rows_opened, table_none, table_started, table_told}
use Rattle.strat_cursor.specs.Cursors.{MayGoOn, TellsNext, arrays_named, closed_at, is_opened, moved_at, pairs_left}
use Rattle.strat_cursor.specs.Held.{AreRowsOf, HeldCursor, HeldCursors, IsMapHeld}
use Rattle.strat_cursor.specs.Looking.{AreCachedFrom, AreInOrder, LooksThrough, NamesNoBlock, arrays_there}
use Rattle.strat_cursor.specs.Ranges.{FillsPage}
use Rattle.strat_cursor.specs.declared.cursors.CursorFault.{CursorFault}
use Rattle.strat_cursor.specs.declared.cursors.CursorFault.TheVariants as start_fault
use Rattle.strat_cursor.specs.declared.cursors.NextFault.{NextFault}
use Rattle.strat_cursor.specs.declared.cursors.NextFault.TheVariants as next_fault
use Rattle.def_bytes.specs.Arrays.{blocks_of, block_on}
use Rattle.strat_model.specs.Answer.{Answer, accepts, as_told, plain, refusal}
use Rattle.strat_model.specs.Pairs.{Pairs, range}
use Rattle.strat_model.specs.Request.{Request, OpenCursor, NextPairs, CloseCursor}
use Rattle.strat_model.specs.Run.{IsAfter, Position, is_change}
use Rattle.strat_model.proofs.FillLemmas.{not_carried, stays}
use Rattle.strat_model.specs.Step.{Outcome, advanced, has_row, page, pairs_at, refuses, step}
use Rattle.strat_model.specs.Table.{Cursor, Table}
use Rattle.strat_model.specs.declared.replies.Refusal.TheVariants as why
use Rattle.strat_model.specs.declared.replies.Reply.{Reply}
use Rattle.strat_model.specs.declared.replies.Reply.TheVariants as reply
use Rattle.strat_promote.specs.Job.{blocks_listed}
use Rattle.def_recovery.specs.Head.{descriptors}
use Rattle.def_meaning.specs.StateTable.{table_of}
use Rattle.def_publish.proofs.FreeLemmas.{read_stands}
use Rattle.def_publish.proofs.ListLemmas.{among_contained, contained_among}
use Rattle.def_publish.specs.Contents.{Contents, contents_state}
use Rattle.def_publish.specs.Standing.{ContentsStand, LeavesContent}
use Rattle.def_state.specs.Level.{Level}
use Rattle.strat_store.proofs.GoingLemmas.{open_as}
use Rattle.strat_store.proofs.GettingLemmas.{blamed, cached, known, none_damaged, ordered}
use Rattle.strat_publish.proofs.WholeLemmas.{whole_read}
use Rattle.strat_store.proofs.RangingLemmas.{map_seen, page_told, table_asked}
use Rattle.strat_store.specs.Applying.{FailsAsTold, is_fault}
use Rattle.strat_publish.specs.Outcomes.{IsDamagedIn}
use Rattle.strat_store.specs.Cursoring.{IsAppliedAt, cursors_after, reply_of_close, reply_of_next, reply_of_start}
use Rattle.strat_memory.specs.Held.{Held, IsConsistent, IsOpenAt, StandsAt, StandsWith, arrays_held, contents_held, position_at, table_at}
use Rattle.strat_memory.specs.Memory.{Memory, cursor_from, with_cursor, lists_in_memory, has_version}
use Rattle.strat_store.specs.Ranging.{HasPairs, TellsOfCursor, TellsOfOpening, TellsOfVersion}
use Rattle.strat_cursor.proofs.ThroughLemmas.{id_names}

-- what is cached of some arrays stays as an image has it while blocks of others come in, where a number says which array it is
cached_beside : (content : Option Image) (f : Image) (next : ℕ) (mine others : List ArrayDesc) (c d : Blocks) → content ≡ Some f
    → ((k : ℕ × ℕ) (x : List Entry) → Contains d.entries (k, x) → Contains c.entries (k, x) ⊎ ((b : ArrayDesc) × Contains others b × IsBlockRead content b.id (blocks_of b.extents) k x))
    → ((b : ArrayDesc) → Contains others b → b.id < next) → ((a b : ArrayDesc) → Contains mine a → Contains others b → b.id ≡ a.id → b ≡ a)
    → AreCachedFrom f next mine c → AreCachedFrom f next mine d
cached_beside content f next mine others c d exposed looks below one cached = record {
  old = λ k x there.
      elim (looks k x there) [
        | inl before ↦ cached.old k x before
        | inr got ↦ omega (arith, got.2.mine, below got.0 got.1)
      ];
  same = λ a index block x of there at.
      elim (looks (a.id, index) x there) [
        | inl before ↦ cached.same a index block x of before at
        | inr got ↦
            let read = got.2 in
            let is : got.0 ≡ a = one a got.0 of got.1 (sym read.mine) in
            let place : Some block ≡ Some read.block = sym at ∙ ap (λ (z : ArrayDesc). slice_get (blocks_of z.extents) index) (sym is) ∙ read.place in
            let here : block ≡ read.block = cc in
            ap (block_on f) here ∙ read.read f exposed
      ];
}

-- a call that looked at some arrays looked at more
pub looks_wider : (v now : DiskView) (some more : List ArrayDesc) (c d : Blocks) → ((a : ArrayDesc) → Contains some a → Contains more a) → LooksThrough v now some c d → LooksThrough v now more c d
looks_wider v now some more c d wider looks = record {
  disk = looks.disk;
  cap = looks.cap;
  cached = λ k x there.
      elim (looks.cached k x there) [
        | inl before ↦ inl before
        | inr got ↦ inr (got.0, wider got.0 got.1, got.2)
      ];
}

-- an array that an open cursor names is named
pub cursor_names : (cursors : List HeldCursor) (c : HeldCursor) (a : ArrayDesc) → Contains cursors c → Contains c.arrays a → Contains (arrays_named cursors) a
cursor_names cursors c a of one =
    among_contained (arrays_named cursors) a (among_in_flat (λ (k : HeldCursor). k.arrays) cursors c a (contained_among cursors c of) (contained_among c.arrays a one))

-- a block of an array is one of theirs
pub agree_of : (arrays : List ArrayDesc) (f g : Image) (a : ArrayDesc) → Contains arrays a → AgreeOn (blocks_listed arrays) f g → AgreeOn (blocks_of a.extents) f g
agree_of arrays f g a of agree = λ b there.
    agree b (among_contained (blocks_listed arrays) b (among_in_flat (λ (d : ArrayDesc). blocks_of d.extents) arrays a b (contained_among arrays a of) (contained_among (blocks_of a.extents) b there)))

-- the position after a command that is no change
place_of : (mem : ℕ) (at : Position) (r : Request) (o : Outcome) → step at.table r ≡ o → is_change r ≡ false → IsAfter mem at r (record { table = o.table; fill = at.fill })
place_of mem at r o is still = stays mem at (record { table = o.table; fill = at.fill }) r (not_carried at r still) (ap (λ (z : Outcome). z.table) (sym is)) refl

-- a store that stands, with its cursors
module _ (v : DiskView) (s : Held) (x : Contents) (rows : List Cursor) (whole : IsConsistent s) (at : StandsAt v s x rows) where
  abbrev f : Image
  f = at.stands.stands.content

  abbrev next : ℕ
  next = s.chained.manifest.next_array

  abbrev opened : List HeldCursor
  opened = s.memory.cursors.opened

  abbrev t : Table
  t = table_at s x rows

  listed : arrays_there s.levels ≡ descriptors s.chained.manifest
  listed = ap (flat_map (λ (l : LevelDesc). l.arrays)) whole.placed.listed_are

  -- it stands as it did with other cursors, as these give the table's
  pub stands_still : (m : Memory) (b : Bool) (left : List Cursor) → m.sealed ≡ s.memory.sealed → AreRowsOf f m.parents m.cursors.opened left
      → ((c : HeldCursor) → Contains m.cursors.opened c → MayGoOn f next c s.cached) → StandsAt v (record s { memory = m; spent = b }) x left
  stands_still m b left sealed rows_are going = record {
    stands = record {
      stands = at.stands.stands;
      held = at.stands.held;
      cached = at.stands.cached;
      filtered = at.stands.filtered;
      open_over = open_as f s (record s { memory = m; spent = b }) x (length s.log.list) s.promoting sealed refl at.stands.open_over;
    };
    rows_are = rows_are;
    going = going;
  }

  -- and so it does where blocks of the arrays that it holds came into the cache
  module _ (now : DiskView) (d : Blocks) (looks : LooksThrough v now (arrays_held s.memory s.levels) s.cached d) (leaves : LeavesContent now) where
    beside : (mine : List ArrayDesc) → ((a : ArrayDesc) → Contains mine a → Contains (arrays_held s.memory s.levels) a) → AreCachedFrom f next mine s.cached → AreCachedFrom f next mine d
    beside mine there cached =
        let all = arrays_held s.memory s.levels in
        cached_beside v.content f next mine all s.cached d at.stands.stands.exposed looks.cached whole.kept.below
        (λ a b one other same. id_names all b a whole.kept.ids (contained_among all b other) (contained_among all a (there a one)) same) cached

    pub still_going : (c : HeldCursor) → Contains opened c → MayGoOn f next c d
    still_going c of =
        let may = at.going c of in
        record { ordered = may.ordered; ids = may.ids; same = beside c.arrays (λ a one. whole.kept.named a (cursor_names opened c a of one)) may.same }

    later : ContentsStand now x
    later = read_stands x v now looks.disk at.stands.stands leaves

    same_content : f ≡ later.content
    same_content =
        let some : Some f ≡ Some later.content = sym at.stands.stands.exposed ∙ sym looks.disk.same ∙ later.exposed in
        cc

    still_cached : AreCachedFrom later.content next (descriptors s.chained.manifest) d
    still_cached =
        subst (λ (g : Image). AreCachedFrom g next (descriptors s.chained.manifest) d) same_content
        (beside (descriptors s.chained.manifest)
        (λ a of. Contains-append_left (arrays_there s.levels) s.memory.cursors.retired a (subst (λ (rs : List ArrayDesc). Contains rs a) (sym listed) of)) at.stands.cached)

    pub stands_now : (m : Memory) (b : Bool) (left : List Cursor) → m.sealed ≡ s.memory.sealed → AreRowsOf f m.parents m.cursors.opened left
        → ((c : HeldCursor) → Contains m.cursors.opened c → MayGoOn f next c d) → StandsAt now (record s { memory = m; cached = d; spent = b }) x left
    stands_now m b left sealed rows_are going = record {
      stands = record {
        stands = later;
        held = at.stands.held;
        cached = still_cached;
        filtered = at.stands.filtered;
        open_over = subst (λ (g : Image). IfSome s.promoting (IsOpenAt g (record s { memory = m; cached = d; spent = b }) x (length s.log.list))) same_content
            (open_as f s (record s { memory = m; cached = d; spent = b }) x (length s.log.list) s.promoting sealed refl at.stands.open_over);
      };
      rows_are = subst (λ (g : Image). AreRowsOf g m.parents m.cursors.opened left) same_content rows_are;
      going = λ c of. subst (λ (g : Image). MayGoOn g next c d) same_content (going c of);
    }

  -- there are as many cursors as rows
  many : length rows ≡ length opened
  many = rows_length f s.memory.parents opened rows at.rows_are

  held_at : StandsAt v s (contents_held s x.levels) rows
  held_at = subst (λ (y : Contents). StandsAt v s y rows) at.stands.held at

  -- a version is known where the table has it
  row_known : (n : ℕ) → has_version s.memory n ≡ has_row t n
  row_known n =
      subst (λ (y : Contents). has_version s.memory n ≡ has_row (table_of (contents_state y)) n) (sym at.stands.held)
      (known v s x.levels whole (subst (StandsWith v s) at.stands.held at.stands) n)

  refused_of_unknown : (n : ℕ) (lo hi : List ℕ) → has_version s.memory n ≡ false → step t (OpenCursor n lo hi) ≡ refuses t why.UnknownVersion
  refused_of_unknown n lo hi off = rw (sym (row_known n) ∙ off) refl

  refused_of_limit : (n : ℕ) (lo hi : List ℕ) → has_version s.memory n ≡ true → length opened ≡ 64 → step t (OpenCursor n lo hi) ≡ refuses t why.CursorLimit
  refused_of_limit n lo hi is full = rw (sym (row_known n) ∙ is, eq-eqb (length rows) 64 (many ∙ full)) refl

  -- the table with one cursor more
  abbrev started : ℕ → List ℕ → List ℕ → List Cursor
  started n lo hi = rows ++ record { number = s.memory.cursors.next; left = range (pairs_at t n) lo hi } ∷ []

  abbrev outcome_of_start : ℕ → List ℕ → List ℕ → Outcome
  outcome_of_start n lo hi = record {
    answer = plain (reply.Opened s.memory.cursors.next);
    table = record t { cursors = started n lo hi; next_cursor = s.memory.cursors.next + 1 };
  }

  started_by : (n : ℕ) (lo hi : List ℕ) → has_version s.memory n ≡ true → length opened ≢ 64 → step t (OpenCursor n lo hi) ≡ outcome_of_start n lo hi
  started_by n lo hi is room = rw (sym (row_known n) ∙ is, ne_eqb (length rows) 64 (λ full. room (sym many ∙ full))) refl

  abbrev one_more : ℕ → List ℕ → List ℕ → Memory
  one_more n lo hi = record s.memory { cursors = with_cursor s.memory.cursors (cursor_from s.memory s.levels n lo hi) }

  -- the map of the version is what the cursor reads
  reads_map : (n : ℕ) (lo hi : List ℕ) → has_version s.memory n ≡ true → IsMapHeld f s.memory.parents (cursor_from s.memory s.levels n lo hi) (pairs_at t n)
  reads_map n lo hi is =
      subst (λ (y : Contents). IsMapHeld f s.memory.parents (cursor_from s.memory s.levels n lo hi) (pairs_at (table_of (contents_state y)) n)) (sym at.stands.held)
      (go x.levels (subst (StandsWith v s) at.stands.held at.stands) (same_exposed (subst (StandsWith v s) at.stands.held at.stands)))
    where
      same_exposed : {y : Contents} (w : StandsWith v s y) → w.stands.content ≡ f
      same_exposed w =
          let some : Some w.stands.content ≡ Some f = sym w.stands.exposed ∙ at.stands.stands.exposed in
          cc

      go : (levels : List Level) (w : StandsWith v s (contents_held s levels)) → w.stands.content ≡ f
          → IsMapHeld f s.memory.parents (cursor_from s.memory s.levels n lo hi) (pairs_at (table_of (contents_state (contents_held s levels))) n)
      go levels w same =
          subst (λ (g : Image). IsMapHeld g s.memory.parents (cursor_from s.memory s.levels n lo hi) (pairs_at (table_of (contents_state (contents_held s levels))) n)) same
          (map_seen w.stands.content s.memory.parents (lists_in_memory s.memory) s.levels n (pairs_at (table_of (contents_state (contents_held s levels))) n) (table_asked v s levels whole w n is))

  -- a cursor that begins may go on
  start_goes_on : (n : ℕ) (lo hi : List ℕ) → MayGoOn f next (cursor_from s.memory s.levels n lo hi) s.cached
  start_goes_on n lo hi =
      let w = subst (StandsWith v s) at.stands.held at.stands in
      let some : Some w.stands.content ≡ Some f = sym w.stands.exposed ∙ at.stands.stands.exposed in
      let same : w.stands.content ≡ f = cc in
      let may = whole_read s whole in
      asked_may_go_on f next s.memory.parents s.levels n (cursor_from s.memory s.levels n lo hi) s.cached refl
      (subst (λ (g : Image). AreInOrder g (arrays_there s.levels)) same (ordered v s x.levels whole w)) may.own
      (subst (λ (g : Image). AreCachedFrom g next (arrays_there s.levels) s.cached) same (cached v s x.levels whole w))

  all_go_on : (n : ℕ) (lo hi : List ℕ) (c : HeldCursor) → Contains (opened ++ cursor_from s.memory s.levels n lo hi ∷ []) c → MayGoOn f next c s.cached
  all_go_on n lo hi c of = by (Contains_split opened (cursor_from s.memory s.levels n lo hi) c of)
    where
      Contains_split : (xs : List HeldCursor) (one c : HeldCursor) → Contains (xs ++ one ∷ []) c → Contains xs c ⊎ (c ≡ one)
      Contains_split xs one c of =
          elim (among_split xs (one ∷ []) c (contained_among (xs ++ one ∷ []) c of)) [
            | inl before ↦ inl (among_contained xs c before)
            | inr (inl new) ↦ inr new
            | inr (inr none) ↦ absurd none
          ]

      by : Contains opened c ⊎ (c ≡ cursor_from s.memory s.levels n lo hi) → MayGoOn f next c s.cached
      by (inl before) = at.going c before
      by (inr new) = subst (λ (k : HeldCursor). MayGoOn f next k s.cached) (sym new) (start_goes_on n lo hi)

  -- an opening is answered as the table says, or memory ran out
  unknown_not_opened : (n : ℕ) (lo hi : List ℕ) → has_version s.memory n ≡ false
      → IsAppliedAt v s x rows (OpenCursor n lo hi) (plain (reply.Refused why.UnknownVersion)) (record s { spent = false })
  unknown_not_opened n lo hi off =
      let o = refused_of_unknown n lo hi off in
      inl (record {
        told = ap (λ (z : Outcome). z.answer) (sym o);
        going = refl;
        after = x;
        left = rows;
        stands = stands_still s.memory false rows refl at.rows_are at.going;
        place = place_of s.log.mem (position_at s x rows) (OpenCursor n lo hi) (refuses t why.UnknownVersion) o refl;
      })

  known_opened : (n : ℕ) (lo hi : List ℕ) (r : Result ℕ CursorFault) (m : Memory) → has_version s.memory n ≡ true
      → IfOk r (λ k. (k ≡ s.memory.cursors.next) × (m ≡ one_more n lo hi)) → OnErr r (m ≡ s.memory) → (IsErrOf r start_fault.CursorLimit ↔ (length opened ≡ 64))
      → IsAppliedAt v s x rows (OpenCursor n lo hi) (plain (reply_of_start r)) (record s { memory = m; spent = is_fault (reply_of_start r) })
  known_opened n lo hi (Ok k) m is opens same limit =
      let room : length opened ≢ 64 = λ full. (let e : ◌≡◌ {A = Result ℕ CursorFault} (Ok k) (Err start_fault.CursorLimit) = limit.1 full in cc) in
      let o = started_by n lo hi is room in
      subst (λ (z : Memory). IsAppliedAt v s x rows (OpenCursor n lo hi) (plain (reply.Opened k)) (record s { memory = z; spent = false })) (sym opens.1)
      (inl (record {
        told = ap (λ (z : ℕ). plain (reply.Opened z)) opens.0 ∙ ap (λ (z : Outcome). z.answer) (sym o);
        going = refl;
        after = x;
        left = started n lo hi;
        stands = stands_still (one_more n lo hi) false (started n lo hi) refl
            (table_started f s.memory.parents opened rows (cursor_from s.memory s.levels n lo hi) lo (pairs_at t n) at.rows_are refl (reads_map n lo hi is)) (all_go_on n lo hi);
        place = place_of s.log.mem (position_at s x rows) (OpenCursor n lo hi) (outcome_of_start n lo hi) o refl;
      }))
  known_opened n lo hi (Err start_fault.CursorLimit) m is opens same limit =
      let o = refused_of_limit n lo hi is (limit.0 refl) in
      subst (λ (z : Memory). IsAppliedAt v s x rows (OpenCursor n lo hi) (plain (reply.Refused why.CursorLimit)) (record s { memory = z; spent = false })) (sym same)
      (inl (record {
        told = ap (λ (z : Outcome). z.answer) (sym o);
        going = refl;
        after = x;
        left = rows;
        stands = stands_still s.memory false rows refl at.rows_are at.going;
        place = place_of s.log.mem (position_at s x rows) (OpenCursor n lo hi) (refuses t why.CursorLimit) o refl;
      }))
  known_opened n lo hi (Err start_fault.NoMemory) m is opens same limit =
      let room : length opened ≢ 64 = λ full. (let e : ◌≡◌ {A = Result ℕ CursorFault} (Err start_fault.NoMemory) (Err start_fault.CursorLimit) = limit.1 full in cc) in
      let o = started_by n lo hi is room in
      subst (λ (z : Memory). IsAppliedAt v s x rows (OpenCursor n lo hi) (plain (reply.Refused why.NoMemory)) (record s { memory = z; spent = false })) (sym same)
      (inr (inl (record {
        takes = refl;
        acceptable = ap (λ (z : Outcome). accepts z.answer.reply) o;
        full = λ change. absurd (true≢false (sym change));
        told = refl;
        going = refl;
        stands = stands_still s.memory false rows refl at.rows_are at.going;
        place = refl;
      })))

  -- a closing is answered as the table says
  closed_unknown : (n : ℕ) → is_opened n opened ≡ false → IsAppliedAt v s x rows (CloseCursor n) (plain (reply.Refused why.UnknownCursor)) (record s { spent = false })
  closed_unknown n none =
      let off : list_any (λ (c : Cursor). eqb c.number n) rows ≡ false = rows_opened f s.memory.parents n opened rows at.rows_are ∙ none in
      let o : step t (CloseCursor n) ≡ refuses t why.UnknownCursor = rw (off) refl in
      inl (record {
        told = ap (λ (z : Outcome). z.answer) (sym o);
        going = refl;
        after = x;
        left = rows;
        stands = stands_still s.memory false rows refl at.rows_are at.going;
        place = place_of s.log.mem (position_at s x rows) (CloseCursor n) (refuses t why.UnknownCursor) o refl;
      })

  closed_done : (n : ℕ) → is_opened n opened ≡ true → IsAppliedAt v s x rows (CloseCursor n) (plain reply.Done) (record s { memory = record s.memory { cursors = closed_at n s.memory.cursors }; spent = false })
  closed_done n there =
      let on : list_any (λ (c : Cursor). eqb c.number n) rows ≡ true = rows_opened f s.memory.parents n opened rows at.rows_are ∙ there in
      let o : step t (CloseCursor n) ≡ record { answer = plain reply.Done; table = record t { cursors = filter (λ (c : Cursor). not (eqb c.number n)) rows } } = rw (on) refl in
      inl (record {
        told = ap (λ (z : Outcome). z.answer) (sym o);
        going = refl;
        after = x;
        left = filter (λ (c : Cursor). not (eqb c.number n)) rows;
        stands = stands_still (record s.memory { cursors = closed_at n s.memory.cursors }) false (filter (λ (c : Cursor). not (eqb c.number n)) rows) refl
            (rows_less f s.memory.parents n opened rows at.rows_are) (goes_on_without f next s.cached n opened at.going);
        place = place_of s.log.mem (position_at s x rows) (CloseCursor n) (record { answer = plain reply.Done; table = record t { cursors = filter (λ (c : Cursor). not (eqb c.number n)) rows } }) o refl;
      })

  -- so the answers say which of these it was
  module _ (n : ℕ) (lo hi : List ℕ) (m : Memory) where
    abbrev Opening : Reply → Memory → Type 0
    Opening told z = IsAppliedAt v s x rows (OpenCursor n lo hi) (plain told) (record s { memory = z; spent = is_fault told })

    abbrev left : Reply → Memory
    left told = record s.memory { cursors = cursors_after s.memory s.levels (OpenCursor n lo hi) (plain told) }

    pub opened_applied : (told : Reply) → TellsOfVersion s.memory n (plain told) (TellsOfOpening s.memory.cursors (plain told)) → m ≡ left told → Opening told m
    opened_applied told tells is = by (has_version s.memory n) refl
      where
        told_so : (other : Reply) → plain told ≡ plain other → Opening other (left other) → Opening told m
        told_so other e applied =
            let same : told ≡ other = ap (λ (a : Answer). a.reply) e in
            subst (λ (r : Reply). Opening r m) (sym same) (subst (Opening other) (sym (is ∙ ap left same)) applied)

        by_room : has_version s.memory n ≡ true → (full : Bool) → eqb (length opened) 64 ≡ full → Opening told m
        by_room on true test =
            let full = eqb-true (length opened) 64 test in
            told_so (reply.Refused why.CursorLimit) ((tells.1 on).0 full) (known_opened n lo hi (Err start_fault.CursorLimit) s.memory on tt refl (λ _. full, λ _. refl))
        by_room on false test =
            let room : length opened ≢ 64 = λ full. true≢false (sym (eq-eqb (length opened) 64 full) ∙ test) in
            elim ((tells.1 on).1 room) [
              | inl e ↦ told_so (reply.Opened s.memory.cursors.next) e (known_opened n lo hi (Ok s.memory.cursors.next) (one_more n lo hi) on (refl, refl) tt (λ e. absurd (cc), λ full. absurd (room full)))
              | inr e ↦ told_so (reply.Refused why.NoMemory) e (known_opened n lo hi (Err start_fault.NoMemory) s.memory on tt refl (λ e. absurd (cc), λ full. absurd (room full)))
            ]

        by : (b : Bool) → has_version s.memory n ≡ b → Opening told m
        by false off = told_so (reply.Refused why.UnknownVersion) (tells.0 off) (unknown_not_opened n lo hi off)
        by true on = by_room on (eqb (length opened) 64) refl

  pub closing_applied : (n : ℕ) (m : Memory) (told : Reply) → plain told ≡ (if is_opened n opened then plain reply.Done else refusal why.UnknownCursor)
      → m ≡ record s.memory { cursors = cursors_after s.memory s.levels (CloseCursor n) (plain told) }
      → IsAppliedAt v s x rows (CloseCursor n) (plain told) (record s { memory = m; spent = is_fault told })
  closing_applied n m told tells is = by (is_opened n opened) refl tells
    where
      Closing : Reply → Memory → Type 0
      Closing r z = IsAppliedAt v s x rows (CloseCursor n) (plain r) (record s { memory = z; spent = is_fault r })

      left_by : Reply → Memory
      left_by r = record s.memory { cursors = cursors_after s.memory s.levels (CloseCursor n) (plain r) }

      told_so : (other : Reply) → plain told ≡ plain other → Closing other (left_by other) → Closing told m
      told_so other e applied =
          let same : told ≡ other = ap (λ (a : Answer). a.reply) e in
          subst (λ (r : Reply). Closing r m) (sym same) (subst (Closing other) (sym (is ∙ ap left_by same)) applied)

      by : (b : Bool) → is_opened n opened ≡ b → plain told ≡ (if b then plain reply.Done else refusal why.UnknownCursor) → Closing told m
      by true on e = told_so reply.Done e (closed_done n on)
      by false off e = told_so (reply.Refused why.UnknownCursor) e (closed_unknown n off)

  -- a page of an open cursor is accepted
  page_accepted : (n limit : ℕ) → is_opened n opened ≡ true → accepts (step t (NextPairs n limit)).answer.reply ≡ true
  page_accepted n limit on = by (find (λ (c : Cursor). eqb c.number n) rows) refl
    where
      by : (o : Option Cursor) → find (λ (c : Cursor). eqb c.number n) rows ≡ o
          → accepts (option_map_or (λ (c : Cursor). record { answer = page c.left limit; table = record t { cursors = advanced t.cursors n limit } }) o (refuses t why.UnknownCursor)).answer.reply ≡ true
      by (Some c) is = refl
      by None is =
          let there = any_among (λ (c : Cursor). eqb c.number n) rows (rows_opened f s.memory.parents n opened rows at.rows_are ∙ on) in
          absurd (true≢false (sym there.2 ∙ find_none (λ (c : Cursor). eqb c.number n) rows there.0 is there.1))

  -- a page is told as the table says, unless the device failed
  module _ (now : DiskView) (d : Blocks) (named : LooksThrough v now (arrays_named opened) s.cached d) (leaves : LeavesContent now) where
    looks : LooksThrough v now (arrays_held s.memory s.levels) s.cached d
    looks = looks_wider v now (arrays_named opened) (arrays_held s.memory s.levels) s.cached d whole.kept.named named

    pub page_applied : (n limit : ℕ) (out : TheirPairs) (r : Result Bool NextFault) (m : Memory)
        → IfOk r (λ more. (c : HeldCursor) → Contains opened c → c.number ≡ n → (g : Image) (k : ℕ) (pairs : Pairs) → Exposes v g → MayGoOn g k c s.cached → IsMapHeld g s.memory.parents c pairs → TellsNext pairs c limit out more)
        → IfOk r (λ more. m ≡ record s.memory { cursors = record s.memory.cursors { opened = moved_at n more out opened } })
        → (IsErrOf r next_fault.UnknownCursor ↔ (is_opened n opened ≡ false)) → OnErr r ((m ≡ s.memory) × (out ≡ []))
        → ((b : ℕ) → IsErrOf r (next_fault.Damaged b) → NamesNoBlock v.content (arrays_named opened) b)
        → IsAppliedAt now s x rows (NextPairs n limit) (as_told (reply_of_next r) out) (record s { memory = m; cached = d; spent = is_fault (reply_of_next r) })
    page_applied n limit out (Ok more) m tells moves unknown same names =
        let on : is_opened n opened ≡ true = by_open (is_opened n opened) unknown.1 in
        let told = table_told f s.memory.parents opened t n limit out more at.rows_are on (λ c of num pairs reads. tells c of num f next pairs at.stands.stands.exposed (at.going c of) reads) in
        subst (λ (z : Memory). IsAppliedAt now s x rows (NextPairs n limit) (as_told (reply.Pairs more) out) (record s { memory = z; cached = d; spent = false })) (sym moves)
        (inl (record {
          told = ap (λ (z : Outcome). z.answer) (sym told.0);
          going = refl;
          after = x;
          left = advanced rows n limit;
          stands = stands_now now d looks leaves (record s.memory { cursors = record s.memory.cursors { opened = moved_at n more out opened } }) false (advanced rows n limit) refl told.1
              (goes_on_moved f next d n more out opened (still_going now d looks leaves));
          place = place_of s.log.mem (position_at s x rows) (NextPairs n limit)
              (record { answer = as_told (reply.Pairs more) out; table = record t { cursors = advanced rows n limit } }) told.0 refl;
        }))
      where
        by_open : (b : Bool) → (b ≡ false → IsErrOf (Ok more) next_fault.UnknownCursor) → b ≡ true
        by_open true none = refl
        by_open false none = let e : ◌≡◌ {A = Result Bool NextFault} (Ok more) (Err next_fault.UnknownCursor) = none refl in absurd (cc)
    page_applied n limit out (Err next_fault.UnknownCursor) m tells moves unknown same names =
        let o = table_none f s.memory.parents opened t n limit at.rows_are (unknown.0 refl) in
        subst (λ (z : Memory). IsAppliedAt now s x rows (NextPairs n limit) (as_told (reply.Refused why.UnknownCursor) out) (record s { memory = z; cached = d; spent = false })) (sym same.0)
        (inl (record {
          told = ap (λ (z : TheirPairs). as_told (reply.Refused why.UnknownCursor) z) same.1 ∙ ap (λ (z : Outcome). z.answer) (sym o);
          going = refl;
          after = x;
          left = rows;
          stands = stands_now now d looks leaves s.memory false rows refl at.rows_are (still_going now d looks leaves);
          place = place_of s.log.mem (position_at s x rows) (NextPairs n limit) (refuses t why.UnknownCursor) o refl;
        }))
    page_applied n limit out (Err next_fault.Device) m tells moves unknown same names =
        let on : is_opened n opened ≡ true = by_open (is_opened n opened) unknown.1 in
        inr (inr (record {
          reached = refl;
          acceptable = page_accepted n limit on;
          told = ap (as_told (reply.Refused why.DeviceFault)) same.1;
          spent = refl;
        }))
      where
        by_open : (b : Bool) → (b ≡ false → IsErrOf {T = Bool} (Err next_fault.Device) next_fault.UnknownCursor) → b ≡ true
        by_open true none = refl
        by_open false none = let e : ◌≡◌ {A = Result Bool NextFault} (Err next_fault.Device) (Err next_fault.UnknownCursor) = none refl in absurd (cc)
    page_applied n limit out (Err (next_fault.Damaged b)) m tells moves unknown same names =
        let is = names b refl in
        let of = among_flat (λ (c : HeldCursor). c.arrays) opened is.array (contained_among (arrays_named opened) is.array is.one) in
        let may = at.going of.0 (among_contained opened of.0 of.1) in
        absurd (none_damaged v.content f of.0.arrays b at.stands.stands.exposed may.ordered (record { array = is.array; one = among_contained of.0.arrays is.array of.2; none = is.none }))

-- what is told of cursors, by what is in memory
pub unknown_told : (m : Memory) (n : ℕ) (Told : Type 0) → has_version m n ≡ false → TellsOfVersion m n (plain (reply.Refused why.UnknownVersion)) Told
unknown_told m n Told off = (λ _. refl, λ is. absurd (true≢false (sym is ∙ off)))

pub known_told : (m : Memory) (n : ℕ) (answer : Answer) (Told : Type 0) → has_version m n ≡ true → Told → TellsOfVersion m n answer Told
known_told m n answer Told is told = (λ off. absurd (true≢false (sym is ∙ off)), λ _. told)

pub numbers : (P : ℕ → Type 0) (n : ℕ) (r : Result ℕ CursorFault) → IfOk r (λ k. (k ≡ n) × P k) → IfOk r (λ k. k ≡ n)
numbers P n (Ok k) opens = opens.0
numbers P n (Err e) opens = tt

pub opening_told : (c : HeldCursors) (r : Result ℕ CursorFault) → IfOk r (λ k. k ≡ c.next) → (IsErrOf r start_fault.CursorLimit ↔ (length c.opened ≡ 64)) → TellsOfOpening c (plain (reply_of_start r))
opening_told c (Ok k) opens limit =
    (λ full. absurd (let e : ◌≡◌ {A = Result ℕ CursorFault} (Ok k) (Err start_fault.CursorLimit) = limit.1 full in cc), λ room. inl (ap (λ (z : ℕ). plain (reply.Opened z)) opens))
opening_told c (Err start_fault.CursorLimit) opens limit = (λ full. refl, λ room. absurd (room (limit.0 refl)))
opening_told c (Err start_fault.NoMemory) opens limit =
    (λ full. absurd (let e : ◌≡◌ {A = Result ℕ CursorFault} (Err start_fault.NoMemory) (Err start_fault.CursorLimit) = limit.1 full in cc), λ room. inr refl)

pub nothing_told : {T E : Type 0} (P Q : Type 0) (r : Result T E) → OnErr r (P × Q) → OnErr r Q
nothing_told P Q (Ok x) same = tt
nothing_told P Q (Err e) same = same.1

-- a page has the pairs that were told, and none where it failed
pub pairs_paged : (r : Result Bool NextFault) (out : TheirPairs) (limit : ℕ) → IfOk r (λ more. FillsPage limit (length out) more) → OnErr r (out ≡ []) → HasPairs limit (reply_of_next r) out
pairs_paged (Ok more) out limit fills none = fills
pairs_paged (Err next_fault.UnknownCursor) out limit fills none = none
pairs_paged (Err next_fault.Device) out limit fills none = none
pairs_paged (Err (next_fault.Damaged b)) out limit fills none = none

pub cursor_told : (f : Image) (v : DiskView) (s : Held) (n limit : ℕ) (out : TheirPairs) (r : Result Bool NextFault) → Exposes v f → is_fault (reply_of_next r) ≡ false
    → IfOk r (λ more. (c : HeldCursor) → Contains s.memory.cursors.opened c → c.number ≡ n → (g : Image) (k : ℕ) (pairs : Pairs) → Exposes v g → MayGoOn g k c s.cached → IsMapHeld g s.memory.parents c pairs → TellsNext pairs c limit out more)
    → (IsErrOf r next_fault.UnknownCursor ↔ (is_opened n s.memory.cursors.opened ≡ false)) → OnErr r (out ≡ []) → TellsOfCursor f s n limit (as_told (reply_of_next r) out)
cursor_told f v s n limit out (Ok more) exposed calm tells unknown none = (
  λ off. absurd (let e : ◌≡◌ {A = Result Bool NextFault} (Ok more) (Err next_fault.UnknownCursor) = unknown.1 off in cc),
  λ on. (more, refl),
  λ c pairs of num may reads. page_told (pairs_left pairs c) limit out more (tells c of num f s.chained.manifest.next_array pairs exposed may reads).page,
)
cursor_told f v s n limit out (Err next_fault.UnknownCursor) exposed calm tells unknown none = (
  λ off. ap (as_told (reply.Refused why.UnknownCursor)) none,
  λ on. absurd (true≢false (sym on ∙ unknown.0 refl)),
  λ c pairs of num may reads.
      let there : is_opened n s.memory.cursors.opened ≡ true =
      any_from (λ (k : HeldCursor). eqb k.number n) c s.memory.cursors.opened (contained_among s.memory.cursors.opened c of) (eq-eqb c.number n num) in
      absurd (true≢false (sym there ∙ unknown.0 refl)),
)
cursor_told f v s n limit out (Err next_fault.Device) exposed calm tells unknown none = absurd (true≢false calm)
cursor_told f v s n limit out (Err (next_fault.Damaged b)) exposed calm tells unknown none = absurd (true≢false calm)

pub close_told : (there on : Bool) → there ≡ on → plain (reply_of_close there) ≡ (if on then plain reply.Done else refusal why.UnknownCursor)
close_told true on is = subst (λ (b : Bool). plain reply.Done ≡ (if b then plain reply.Done else refusal why.UnknownCursor)) is refl
close_told false on is = subst (λ (b : Bool). refusal why.UnknownCursor ≡ (if b then plain reply.Done else refusal why.UnknownCursor)) is refl

-- a damaged block that is told of is one of the arrays that are held, and no block
pub page_blames : (content : Option Image) (m : Memory) (levels : List (Option LevelDesc)) (r : Result Bool NextFault) (b : ℕ) → ((a : ArrayDesc) → Contains (arrays_named m.cursors.opened) a → Contains (arrays_held m levels) a)
    → ((block : ℕ) → IsErrOf r (next_fault.Damaged block) → NamesNoBlock content (arrays_named m.cursors.opened) block) → reply_of_next r ≡ reply.Refused (why.Damaged b)
    → IsDamagedIn content m levels b × ((f : Image) → content ≡ Some f → block_on f b ≡ None)
page_blames content m levels (Ok more) b there names told = absurd (cc)
page_blames content m levels (Err next_fault.UnknownCursor) b there names told = absurd (cc)
page_blames content m levels (Err next_fault.Device) b there names told = absurd (cc)
page_blames content m levels (Err (next_fault.Damaged block)) b there names told =
    let same : block ≡ b = cc in
    let is = subst (λ (n : ℕ). NamesNoBlock content (arrays_named m.cursors.opened) n) same (names block refl) in
    (blamed content m levels (arrays_named m.cursors.opened) b there is, is.none.1)

-- what memory is after each of these
pub start_leaves : (m new : Memory) (levels : List (Option LevelDesc)) (v : ℕ) (lo hi : List ℕ) (r : Result ℕ CursorFault)
    → IfOk r (λ k. (k ≡ m.cursors.next) × (new ≡ record m { cursors = with_cursor m.cursors (cursor_from m levels v lo hi) })) → OnErr r (new ≡ m)
    → new ≡ record m { cursors = cursors_after m levels (OpenCursor v lo hi) (plain (reply_of_start r)) }
start_leaves m new levels v lo hi (Ok k) opens same = opens.1
start_leaves m new levels v lo hi (Err start_fault.CursorLimit) opens same = same
start_leaves m new levels v lo hi (Err start_fault.NoMemory) opens same = same

pub page_leaves : (m new : Memory) (levels : List (Option LevelDesc)) (n limit : ℕ) (out : TheirPairs) (r : Result Bool NextFault)
    → IfOk r (λ more. new ≡ record m { cursors = record m.cursors { opened = moved_at n more out m.cursors.opened } }) → OnErr r ((new ≡ m) × (out ≡ []))
    → new ≡ record m { cursors = cursors_after m levels (NextPairs n limit) (as_told (reply_of_next r) out) }
page_leaves m new levels n limit out (Ok more) moves same = moves
page_leaves m new levels n limit out (Err next_fault.UnknownCursor) moves same = same.0
page_leaves m new levels n limit out (Err next_fault.Device) moves same = same.0
page_leaves m new levels n limit out (Err (next_fault.Damaged b)) moves same = same.0

pub close_leaves : (m new : Memory) (levels : List (Option LevelDesc)) (n : ℕ) (there : Bool) → new ≡ record m { cursors = closed_at n m.cursors } → (there ≡ false → new ≡ m)
    → new ≡ record m { cursors = cursors_after m levels (CloseCursor n) (plain (reply_of_close there)) }
close_leaves m new levels n true closes none = closes
close_leaves m new levels n false closes none = none refl

-- and that no fault is told of them
pub start_calm : (r : Result ℕ CursorFault) → is_fault (reply_of_start r) ≡ false
start_calm (Ok k) = refl
start_calm (Err start_fault.CursorLimit) = refl
start_calm (Err start_fault.NoMemory) = refl

pub close_calm : (there : Bool) → is_fault (reply_of_close there) ≡ false
close_calm true = refl
close_calm false = refl

-- nor that a value was found
pub close_short : (there : Bool) → reply_of_close there ≢ reply.Refused why.NoMemory
close_short true = λ e. cc
close_short false = λ e. cc

pub page_short : (r : Result Bool NextFault) → reply_of_next r ≢ reply.Refused why.NoMemory
page_short (Ok more) = λ e. cc
page_short (Err next_fault.UnknownCursor) = λ e. cc
page_short (Err next_fault.Device) = λ e. cc
page_short (Err (next_fault.Damaged b)) = λ e. cc

pub start_found : (r : Result ℕ CursorFault) → reply_of_start r ≢ reply.Found
start_found (Ok k) = λ e. cc
start_found (Err start_fault.CursorLimit) = λ e. cc
start_found (Err start_fault.NoMemory) = λ e. cc

pub close_found : (there : Bool) → reply_of_close there ≢ reply.Found
close_found true = λ e. cc
close_found false = λ e. cc

pub page_found : (r : Result Bool NextFault) → reply_of_next r ≢ reply.Found
page_found (Ok more) = λ e. cc
page_found (Err next_fault.UnknownCursor) = λ e. cc
page_found (Err next_fault.Device) = λ e. cc
page_found (Err (next_fault.Damaged b)) = λ e. cc

-- over a page a count of faults rises where the device failed
pub page_fails : (before now : ℕ) (r : Result Bool NextFault) → HasCause next_fault.Device before now r → FailsAsTold before now (reply_of_next r)
page_fails before now (Ok more) cause = record { later = cause.later; rose = λ e. absurd (cc); same = λ other. cause.ok }
page_fails before now (Err next_fault.UnknownCursor) cause = record { later = cause.later; rose = λ e. absurd (cc); same = λ other. cause.other (λ e. cc) }
page_fails before now (Err next_fault.Device) cause = record { later = cause.later; rose = λ e. cause.device refl; same = λ other. absurd (other refl) }
page_fails before now (Err (next_fault.Damaged b)) cause = record { later = cause.later; rose = λ e. absurd (cc); same = λ other. cause.other (λ e. cc) }
