-- What the buffer of a journal keeps.
use Rattle.std.proofs.Common.{◌≡◌, ◌≤◌, ◌<◌, ◌+◌, ◌-◌, ℕ, suc, Bool, true, List, [], ◌∷◌, ◌++◌, length, take, drop, get_or, set, replicate, refl, sym, ap, ◌∙◌, subst, arith, length-append, append_assoc, drop-cons}
use Rattle.std.specs.List.{list_all}
use Rattle.std.proofs.lemmas.Bool.{and_parts, and_from}
use Rattle.std.proofs.lemmas.List.{get_or-replicate, get_or-set_same, length-replicate, length-set, take_at, drop_at, drop-drop, append-nil, get_or-drop}
use Rattle.strat_base.specs.Numbers.{placed}
use Rattle.strat_base.specs.Change.{Change, change_bytes, change_in, is_lawful}
use Rattle.strat_base.proofs.ChangeLemmas.{change_in-bytes, length-change_bytes}
use Rattle.strat_base.proofs.PlacedLemmas.{length-placed}
use Rattle.def_bytes.specs.Records.{records_bytes}
use Rattle.strat_journal.specs.Buffered.{Buffered, change_then, changes_in, room_for, Keeps}
use Rattle.strat_journal.proofs.LaidLemmas.{records_bytes-append, all_lawful-append, length-records_bytes}

-- records are read from a buffer as they were put there
pub changes_in-records : (cs : List Change) (rest : List ℕ) → list_all is_lawful cs ≡ true → changes_in (length cs) (records_bytes cs ++ rest) ≡ cs
unfolding changes_in
changes_in-records [] rest lawful = refl
changes_in-records (c ∷ cs) rest lawful =
    let parts = and_parts (is_lawful c) (list_all is_lawful cs) lawful in
    let more : List ℕ = records_bytes cs ++ rest in
    let split : (change_bytes c ++ records_bytes cs) ++ rest ≡ change_bytes c ++ more = append_assoc (change_bytes c) (records_bytes cs) rest in
    ap (λ (x : List ℕ). change_then (λ r. changes_in (length cs) r) x (change_in x)) split
    ∙ ap (change_then (λ r. changes_in (length cs) r) (change_bytes c ++ more)) (change_in-bytes c more parts.0)
    ∙ ap (λ (x : List ℕ). c ∷ changes_in (length cs) x) (drop_at (change_bytes c) more (length (change_bytes c)) refl)
    ∙ ap (λ (x : List Change). c ∷ x) (changes_in-records cs rest parts.1)

pub none_in : (bytes : List ℕ) → changes_in 0 bytes ≡ []
unfolding changes_in
none_in bytes = refl

append-nil-size : (xs : List ℕ) → length (xs ++ []) ≡ length xs
append-nil-size xs = ap length (append-nil xs)

regroup : (front batch text rest : List ℕ) → (front ++ batch) ++ (0xa7 ∷ (text ++ 0 ∷ [])) ++ rest ≡ front ++ ((batch ++ (0xa7 ∷ (text ++ []))) ++ 0 ∷ rest)
regroup front batch text rest = simp append_assoc

-- what stands behind the first byte of a part
rest_from : (bytes : List ℕ) (end n gate : ℕ) (tail more : List ℕ) → drop end bytes ≡ (gate ∷ tail) ++ more → n ≡ length tail → gate ∷ take n (drop (end + 1) bytes) ≡ gate ∷ tail
rest_from bytes end n gate tail more e len =
    ap (λ (x : List ℕ). gate ∷ take n x) (sym (drop-drop 1 end bytes) ∙ ap (drop 1) e)
    ∙ ap (λ (x : List ℕ). gate ∷ x) (take_at tail more n (omega arith))

-- the rest of a buffer begins with the byte at its place
rest_begins : (bytes : List ℕ) (len : ℕ) → len < length bytes → drop len bytes ≡ get_or bytes len 0 ∷ drop (len + 1) bytes
rest_begins bytes len within = let next : len + 1 ≡ suc len = omega arith in drop-cons bytes len 0 within ∙ ap (λ (n : ℕ). get_or bytes len 0 ∷ drop n bytes) (sym next)

split_batch : (batch : List Change) (bytes : List ℕ) (end len : ℕ) → 0 < length batch → drop end bytes ≡ records_bytes batch ++ 0 ∷ drop (len + 1) bytes
    → len - end ≡ length (records_bytes batch) → 0xa7 ∷ take (len - end) (drop (end + 1) bytes) ≡ records_bytes batch ++ 0 ∷ []
split_batch [] bytes end len some e size = absurd (omega arith)
split_batch (c ∷ cs) bytes end len some e size =
    let tail : List ℕ = (change_bytes c ++ records_bytes cs) ++ 0 ∷ [] in
    rest_from bytes end (len - end) 0xa7 tail (drop (len + 1) bytes)
    (e ∙ ap (λ (x : List ℕ). 0xa7 ∷ x) (sym (append_assoc (change_bytes c ++ records_bytes cs) (0 ∷ []) (drop (len + 1) bytes))))
    (omega (arith, size, length-append (change_bytes c ++ records_bytes cs) (0 ∷ [])))

-- a list at the front without a batch is a batch without a list
as_batch : (list : List Change) (bytes : List ℕ) (mem count end : ℕ) → Keeps list [] bytes mem count 0 end end → count ≤ 16 → Keeps [] list bytes mem 0 count 0 end
as_batch list bytes mem count end keeps short = record {
  text = keeps.text;
  closed = keeps.closed;
  list_end = refl;
  batch_end = omega (arith, keeps.list_end);
  list_count = refl;
  batch_count = keeps.list_count;
  list_fits = refl;
  batch_fits = keeps.list_fits;
  few = omega (arith, keeps.few);
  batch_few = short;
  mem_least = keeps.mem_least;
  mem_most = keeps.mem_most;
  room = keeps.room;
}

module _ (list batch : List Change) (bytes : List ℕ) (mem count staged end len : ℕ) (keeps : Keeps list batch bytes mem count staged end len) where
  pub list_kept : changes_in count bytes ≡ list
  list_kept =
      ap (λ (n : ℕ). changes_in n bytes) (sym keeps.list_count)
      ∙ ap (changes_in (length list)) keeps.text
      ∙ changes_in-records list (records_bytes batch ++ drop len bytes) keeps.list_fits

  pub behind_list : drop end bytes ≡ records_bytes batch ++ drop len bytes
  behind_list = ap (drop end) keeps.text ∙ drop_at (records_bytes list) (records_bytes batch ++ drop len bytes) end (sym keeps.list_end)

  pub batch_kept : changes_in staged (drop end bytes) ≡ batch
  batch_kept =
      ap (λ (n : ℕ). changes_in n (drop end bytes)) (sym keeps.batch_count)
      ∙ ap (changes_in (length batch)) behind_list
      ∙ changes_in-records batch (drop len bytes) keeps.batch_fits

  -- the same, of what is read from the buffer
  pub read_keeps : Keeps (changes_in count bytes) (changes_in staged (drop end bytes)) bytes mem count staged end len
  read_keeps =
      subst (λ (x : List Change). Keeps x (changes_in staged (drop end bytes)) bytes mem count staged end len) (sym list_kept)
      (subst (λ (x : List Change). Keeps list x bytes mem count staged end len) (sym batch_kept) keeps)

  front_size : length (records_bytes list ++ records_bytes batch) ≡ len
  front_size = omega (arith, length-append (records_bytes list) (records_bytes batch), keeps.list_end, keeps.batch_end)

  pub len_within : len < length bytes
  len_within =
      omega (arith, keeps.room, keeps.list_end, keeps.batch_end, length-records_bytes list keeps.list_fits, length-records_bytes batch keeps.batch_fits, keeps.list_count, keeps.batch_count, keeps.few)

  -- the buffer has room for one more record of the largest size
  pub room_more : count + staged < mem → len + 1290 ≤ length bytes
  room_more few =
      omega (arith, keeps.room, keeps.list_end, keeps.batch_end, length-records_bytes list keeps.list_fits, length-records_bytes batch keeps.batch_fits, keeps.list_count, keeps.batch_count)

  kept_front : take len bytes ≡ records_bytes list ++ records_bytes batch
  kept_front =
      ap (take len) (keeps.text ∙ sym (append_assoc (records_bytes list) (records_bytes batch) (drop len bytes)))
      ∙ take_at (records_bytes list ++ records_bytes batch) (drop len bytes) len front_size

  -- a change joins the batch
  module _ (change : Change) (lawful : is_lawful change ≡ true) (room : count + staged < mem) (few : staged < 16) (new : List ℕ) (next : ℕ)
      (put : new ≡ placed bytes len (0xa7 ∷ (change_bytes change ++ 0 ∷ []))) (next_is : next ≡ len + 1 + length (change_bytes change)) where
    fits : len + (2 + length (change_bytes change)) ≤ length bytes
    fits = omega (arith, room_more room, length-change_bytes change lawful)

    abbrev rest : List ℕ
    rest = drop (len + length (0xa7 ∷ (change_bytes change ++ 0 ∷ []))) bytes

    more : records_bytes (batch ++ change ∷ []) ≡ records_bytes batch ++ (0xa7 ∷ (change_bytes change ++ []))
    more = records_bytes-append batch (change ∷ [])

    more_size : length (records_bytes (batch ++ change ∷ [])) ≡ length (records_bytes batch) + 1 + length (change_bytes change)
    more_size = omega (arith, ap length more, length-append (records_bytes batch) (0xa7 ∷ (change_bytes change ++ [])), append-nil-size (change_bytes change))

    -- the whole buffer afterwards
    new_text : new ≡ records_bytes list ++ (records_bytes (batch ++ change ∷ []) ++ 0 ∷ rest)
    new_text =
        put
        ∙ ap (λ (x : List ℕ). x ++ (0xa7 ∷ (change_bytes change ++ 0 ∷ [])) ++ rest) kept_front
        ∙ regroup (records_bytes list) (records_bytes batch) (change_bytes change) rest
        ∙ ap (λ (x : List ℕ). records_bytes list ++ (x ++ 0 ∷ rest)) (sym more)

    new_behind : drop next new ≡ 0 ∷ rest
    new_behind =
        ap (drop next) (new_text ∙ sym (append_assoc (records_bytes list) (records_bytes (batch ++ change ∷ [])) (0 ∷ rest)))
        ∙ drop_at (records_bytes list ++ records_bytes (batch ++ change ∷ [])) (0 ∷ rest) next
        (omega (arith, length-append (records_bytes list) (records_bytes (batch ++ change ∷ [])), more_size, next_is, keeps.list_end, keeps.batch_end))

    pub change_joined : Keeps list (batch ++ change ∷ []) new mem count (staged + 1) end next
    change_joined = record {
      text = new_text ∙ ap (λ (x : List ℕ). records_bytes list ++ (records_bytes (batch ++ change ∷ []) ++ x)) (sym new_behind);
      closed = let same : next ≡ next + 0 = omega arith in ap (λ (i : ℕ). get_or new i 0) same ∙ sym (get_or-drop next new 0 0) ∙ ap (λ (x : List ℕ). get_or x 0 0) new_behind;
      list_end = keeps.list_end;
      batch_end = omega (arith, next_is, keeps.batch_end, more_size);
      list_count = keeps.list_count;
      batch_count = omega (arith, length-append batch (change ∷ []), keeps.batch_count);
      list_fits = keeps.list_fits;
      batch_fits = all_lawful-append batch (change ∷ []) keeps.batch_fits (and_from (is_lawful change) true lawful refl);
      few = omega (arith, room);
      batch_few = omega (arith, few);
      mem_least = keeps.mem_least;
      mem_most = keeps.mem_most;
      room = ap length put ∙ length-placed bytes (0xa7 ∷ (change_bytes change ++ 0 ∷ [])) len (omega (arith, fits, length-append (change_bytes change) (0 ∷ []))) ∙ keeps.room;
    }

  -- the list that was read takes the place of all
  pub front_fits : (changes : List Change) (text : List ℕ) (n : ℕ) → text ≡ records_bytes changes → list_all is_lawful changes ≡ true → length changes ≡ n → n ≤ mem → length text < length bytes
  front_fits changes text n text_is lawful number few = omega (arith, ap length text_is, length-records_bytes changes lawful, number, keeps.room, few)

  module _ (changes : List Change) (text new : List ℕ) (n : ℕ) (text_is : text ≡ records_bytes changes) (lawful : list_all is_lawful changes ≡ true) (number : length changes ≡ n)
      (few : n ≤ mem) (put : new ≡ placed bytes 0 (text ++ 0 ∷ [])) where
    abbrev after : List ℕ
    after = drop (0 + length (text ++ 0 ∷ [])) bytes

    whole : new ≡ text ++ 0 ∷ after
    whole = put ∙ append_assoc text (0 ∷ []) after

    whole_behind : drop (length text) new ≡ 0 ∷ after
    whole_behind = ap (drop (length text)) whole ∙ drop_at text (0 ∷ after) (length text) refl

    pub list_restored : Keeps changes [] new mem n 0 (length text) (length text)
    list_restored = record {
      text = whole ∙ (λ i. text_is i ++ sym whole_behind i);
      closed = let same : length text ≡ length text + 0 = omega arith in ap (λ (i : ℕ). get_or new i 0) same ∙ sym (get_or-drop (length text) new 0 0) ∙ ap (λ (x : List ℕ). get_or x 0 0) whole_behind;
      list_end = ap length text_is;
      batch_end = omega arith;
      list_count = number;
      batch_count = refl;
      list_fits = lawful;
      batch_fits = refl;
      few = omega (arith, few);
      batch_few = omega arith;
      mem_least = keeps.mem_least;
      mem_most = keeps.mem_most;
      room = ap length put ∙ length-placed bytes (text ++ 0 ∷ []) 0 (omega (arith, front_fits changes text n text_is lawful number few, length-append text (0 ∷ []))) ∙ keeps.room;
    }

  -- what an append writes behind the gate
  pub behind_split : 0 < length batch → len < length bytes → 0xa7 ∷ take (len - end) (drop (end + 1) bytes) ≡ records_bytes batch ++ 0 ∷ []
  behind_split some within =
      let tail : drop len bytes ≡ 0 ∷ drop (len + 1) bytes = rest_begins bytes len within ∙ ap (λ (x : ℕ). x ∷ drop (len + 1) bytes) keeps.closed in
      split_batch batch bytes end len some (behind_list ∙ ap (λ (x : List ℕ). records_bytes batch ++ x) tail) (omega (arith, keeps.batch_end))

  -- the batch joins the list
  pub batch_joined : Keeps (list ++ batch) [] bytes mem (count + staged) 0 len len
  batch_joined = record {
    text = keeps.text ∙ sym (append_assoc (records_bytes list) (records_bytes batch) (drop len bytes)) ∙ ap (λ (x : List ℕ). x ++ drop len bytes) (sym (records_bytes-append list batch));
    closed = keeps.closed;
    list_end = sym front_size ∙ ap length (sym (records_bytes-append list batch));
    batch_end = omega arith;
    list_count = omega (arith, length-append list batch, keeps.list_count, keeps.batch_count);
    batch_count = refl;
    list_fits = all_lawful-append list batch keeps.list_fits keeps.batch_fits;
    batch_fits = refl;
    few = omega (arith, keeps.few);
    batch_few = omega arith;
    mem_least = keeps.mem_least;
    mem_most = keeps.mem_most;
    room = keeps.room;
  }

  -- the batch is moved to the front
  pub batch_text : take (len - end) (drop end bytes) ≡ records_bytes batch
  batch_text = ap (take (len - end)) behind_list ∙ take_at (records_bytes batch) (drop len bytes) (len - end) (omega (arith, keeps.batch_end))

  pub batch_moved : (new : List ℕ) → new ≡ placed bytes 0 (take (len - end) (drop end bytes) ++ 0 ∷ []) → Keeps [] batch new mem 0 staged 0 (len - end)
  batch_moved new put =
      let text : List ℕ = take (len - end) (drop end bytes) in
      let size : length text ≡ len - end = omega (arith, ap length batch_text, keeps.batch_end) in
      let front : Keeps batch [] new mem staged 0 (length text) (length text) = list_restored batch text new staged batch_text keeps.batch_fits keeps.batch_count (omega (arith, keeps.few)) put in
      subst (λ (n : ℕ). Keeps [] batch new mem 0 staged 0 n) size (as_batch batch new mem staged (length text) front keeps.batch_few)

-- a buffer of the same changes is the same buffer
pub same_buffered : (mem : ℕ) (list list' batch batch' : List Change) → list ≡ list' → batch ≡ batch'
    → ◌≡◌ {A = Buffered} (record { mem = mem; list = list; batch = batch }) (record { mem = mem; list = list'; batch = batch' })
same_buffered mem list list' batch batch' e f = λ i. record { mem = mem; list = e i; batch = f i }

-- a buffer with a closed gate at its front keeps no change
none_from : (bytes : List ℕ) (mem : ℕ) → get_or bytes 0 0 ≡ 0 → length bytes ≡ room_for mem → 4 ≤ mem → mem ≤ 4096
    → Keeps (changes_in 0 bytes) (changes_in 0 bytes) bytes mem 0 0 0 0
none_from bytes mem shut room least most =
    subst (λ (x : List Change). Keeps x x bytes mem 0 0 0 0) (sym (none_in bytes)) (record {
      text = refl;
      closed = shut;
      list_end = refl;
      batch_end = refl;
      list_count = refl;
      batch_count = refl;
      list_fits = refl;
      batch_fits = refl;
      few = omega arith;
      batch_few = omega arith;
      mem_least = least;
      mem_most = most;
      room = room;
    })

-- a buffer of zeros keeps no change
pub none_kept : (bytes : List ℕ) (mem n : ℕ) → bytes ≡ replicate n 0 → n ≡ room_for mem → 4 ≤ mem → mem ≤ 4096
    → Keeps (changes_in 0 bytes) (changes_in 0 bytes) bytes mem 0 0 0 0
none_kept bytes mem n zeros room least most =
    none_from bytes mem (ap (λ (x : List ℕ). get_or x 0 0) zeros ∙ get_or-replicate n 0 0 0 (omega (arith, room))) (ap length zeros ∙ length-replicate n 0 ∙ room) least most

-- nor does one whose first gate was closed
pub cleared : (list batch : List Change) (bytes new : List ℕ) (mem count staged end len : ℕ) → Keeps list batch bytes mem count staged end len → new ≡ set bytes 0 0
    → Keeps (changes_in 0 new) (changes_in 0 new) new mem 0 0 0 0
cleared list batch bytes new mem count staged end len keeps new_is =
    none_from new mem (ap (λ (x : List ℕ). get_or x 0 0) new_is ∙ get_or-set_same bytes 0 0 0 (omega (arith, keeps.room))) (ap length new_is ∙ length-set bytes 0 0 ∙ keeps.room) keeps.mem_least keeps.mem_most
