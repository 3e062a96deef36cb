-- The fields of counts.
use Rattle.std.specs.Prelude.{◌≡◌, ◌≤◌, ℕ, ◌^◌, List, length, sum, slice_index, vec_capacity}
use Rattle.strat_live.specs.Tallies.{Tallies}
use Rattle.strat_live.specs.declared.counts.Counts.TheInside.{Inside}

-- the counts of these fields
abbrev pub tallies_of : Inside → Tallies
tallies_of a = record {
  own = a.own.items;
  begun = a.begun.items;
  live = a.live.items;
  is_numbered = a.is_numbered;
  order = a.order;
}

-- each version has its counts, and all are small
pub record AreSmall (own begun live : List ℕ) : Type 0 where
  pub begun_len : length begun ≡ length own
  pub live_len : length live ≡ length own
  pub few : sum own ≤ 2 ^ 24
  pub begun_few : sum begun ≤ sum own
  pub live_few : (v : ℕ) → slice_index live v ≤ 2 ^ 24

-- the fields are such counts, with room to order the versions of each key
pub record AreTallied (a : Inside) : Type 0 where
  pub small : AreSmall a.own.items a.begun.items a.live.items
  pub order_len : length a.order.starts ≡ length a.own.items
  pub tops_room : length a.own.items ≤ vec_capacity a.tops
