-- Where the records of one kind stand while rows come: in two areas of the same slices, most of them in main, and those that come too far from its gap in the pocket behind it, until
-- the pocket is emptied into main. Said once for residues and atoms: `In` says of an area which map the slices of a kind have in it.
use Rattle.std.specs.Prelude.{◌≡◌, Bool, true, cond, List, map, ◌⊎◌, ℕ, ◌+◌, ◌-◌, ◌≤◌, ◌<◌, ltb, length, is_err, Result, Ok, Err}
use Rattle.std.proofs.Math.Option.{Option, none}
use Prim.{Unit}
use Rattle.field_slices.specs.Places as Places
use Rattle.field_slices.specs.Places.{place_in}
use Rattle.gapped_slices.specs.Areas.{many, one_more_at, stand_of}
use Rattle.gapped_slices.specs.declared.areas.Area.{Area}
use Rattle.model.specs.Map.{Map, find, put, Ascending}
use Rattle.building.specs.declared.stores.Store.{Store}
use Rattle.building.specs.declared.stores.Way.{Way}
use Rattle.building.specs.declared.stores.Way.TheVariants.{Main, Pocket, Emptied}
use Rattle.building.specs.Parted.{Parted}

abbrev pub no_area : Area
no_area = record { from = 0; to = 0; front = 0; behind = 0 }

-- before the first row
abbrev pub no_store : Store
no_store = record { main = no_area; pocket = no_area; credit = 0 }

abbrev pub emptied_area : Area → Area
emptied_area a = record { from = a.from; to = a.to; front = 0; behind = 0 }

-- how many there are
abbrev pub held : Store → ℕ
held s = many s.main + many s.pocket

-- the areas lie side by side within the room, and main has room for all of them
pub record Lays (room : ℕ) (s : Store) : Type 0 where
  pub start : s.main.from ≡ 0
  pub middle : s.pocket.from ≡ s.main.to
  pub ordered : s.main.to ≤ s.pocket.to
  pub inside : s.pocket.to ≤ room
  pub pocket_fits : many s.pocket ≤ s.pocket.to - s.pocket.from
  pub fits : held s ≤ s.main.to

-- what an area has, by its size and its order
pub record Kept {W : Type 0} (In : Area → Map W → Type 0) (a : Area) (m : Map W) : Type 0 where
  pub many : many a ≡ length m
  pub ascending : Ascending m
  pub fields : In a m

-- the two areas have m between them
pub record Apart {W : Type 0} (In : Area → Map W → Type 0) (room : ℕ) (s : Store) (m : Map W) : Type 0 where
  pub lays : Lays room s
  pub first : Map W
  pub second : Map W
  pub main : Kept In s.main first
  pub pocket : Kept In s.pocket second
  pub ascending : Ascending m
  pub parted : Parted first second m

-- by what a look says where it goes, or is
abbrev pub place_of : Result ℕ ℕ → ℕ
place_of (Ok i) = i
place_of (Err i) = i

-- ---- the credit: it decides the way of an entry, and any way is right

-- how far a gap is from an index
unfoldable pub distance_to : ℕ → ℕ → ℕ
distance_to front at = cond (ltb at front) (front - at) (at - front)

abbrev pub is_far : Store → ℕ → Bool
is_far s at = ltb s.credit (distance_to s.main.front at)

-- sixteen moves more, up to the greatest number that there is
unfoldable pub earned_with : ℕ → ℕ
earned_with credit = cond (ltb 18446744073709551599 credit) credit (credit + 16)

-- ---- what is done to a store

-- one more in main, or in the pocket
pub record InMain (s : Store) (at : ℕ) (r : Store) : Type 0 where
  pub main : r.main ≡ one_more_at s.main at
  pub pocket : r.pocket ≡ s.pocket

pub record InPocket (s : Store) (at : ℕ) (r : Store) : Type 0 where
  pub main : r.main ≡ s.main
  pub pocket : r.pocket ≡ one_more_at s.pocket at

-- where a new entry goes, which depends on how far main's gap has to be moved: there is room for it
abbrev pub Leads : Store → Way → Type 0
Leads s Main = held s < s.main.to
Leads s Pocket = (held s < s.main.to) × (many s.pocket < s.pocket.to - s.pocket.from)
Leads s Emptied = Unit {0}

-- main widened where it is full, so that there is room for one more
pub record Widened (room : ℕ) (s r : Store) : Type 0 where
  pub lays : Lays room r
  pub pocket : many r.pocket ≡ 0
  pub roomy : many r.main < r.main.to
  pub main : (r.main ≡ s.main) ⊎ ((many s.main ≡ s.main.to) × (r.main ≡ record { from = 0; to = r.main.to; front = many s.main; behind = 0 }))

-- ---- what is promised of the functions over the slices of a kind, which have the room (`Long`) and stay as long (`Same`)

abbrev pub keys_of : {W : Type 0} → Map W → List ℕ
keys_of m = map (λ e. e.key) m

-- the pocket emptied into main
pub record Empties {W : Type 0} (Same : Type 0) (Long : ℕ → Type 0) (In In' : Area → Map W → Type 0) (s r : Store) : Type 0 where
  pub same : Same
  pub apart : (room : ℕ) (m : Map W) → Long room → Apart In room s m → Apart In' room r m
  pub none : (room : ℕ) (m : Map W) → Long room → Apart In room s m → many r.pocket ≡ 0

-- room made in main for one more
pub record MakesRoom {W : Type 0} (Same : Type 0) (Long : ℕ → Type 0) (In In' : Area → Map W → Type 0) (room : ℕ) (s r : Store) : Type 0 where
  pub same : Same
  pub apart : (m : Map W) → Long room → Apart In room s m → length m < room → Apart In' room r m
  pub roomy : (m : Map W) → Long room → Apart In room s m → length m < room → held r < r.main.to

-- a new entry put in; at is its index in main
pub record PutsNew {W : Type 0} (Same : Type 0) (Long : ℕ → Type 0) (In In' : Area → Map W → Type 0) (room : ℕ) (s : Store) (at k : ℕ) (v : W) (r : Store) : Type 0 where
  pub same : Same
  pub apart : (m : Map W) → Long room → (h : Apart In room s m) → length m < room → find k m ≡ none → Err at ≡ place_in ltb k (keys_of h.first) → Apart In' room r (put k (λ o. v) m)

-- ---- where a key is, or as an error where it goes in main

abbrev pub sought_by : Store → Result ℕ ℕ → Result ℕ ℕ → Result ℕ ℕ
sought_by s (Ok i) q = Ok (stand_of s.main i)
sought_by s (Err i) (Ok j) = Ok (stand_of s.pocket j)
sought_by s (Err i) (Err j) = Err i

-- what a look for c in both areas says, where their entries ascend
abbrev pub Seeks : {A : Type 0} → (A → A → Bool) → List A → List A → A → Store → Result ℕ ℕ → Type 0
Seeks less main pocket c s r = Places.Ascending less main → Places.Ascending less pocket → r ≡ sought_by s (place_in less c main) (place_in less c pocket)

-- ---- all of them at the front

pub record Gathered {W : Type 0} (Same : Type 0) (Long : ℕ → Type 0) (In : Area → Map W → Type 0) (Front : Map W → Type 0) (s : Store) : Type 0 where
  pub same : Same
  pub front : (room : ℕ) (m : Map W) → Long room → Apart In room s m → Front m

-- a record put in that was looked for: what it is, is made of what it was, where it was met before
pub record Puts {W : Type 0} (Same : Type 0) (Long : ℕ → Type 0) (In In' : Area → Map W → Type 0) (room : ℕ) (s : Store) (sought : Result ℕ ℕ) (k : ℕ) (f : Option W → W) (r : Store) : Type 0 where
  pub same : Same
  pub apart : (m : Map W) → Long room → (h : Apart In room s m) → sought ≡ sought_by s (place_in ltb k (keys_of h.first)) (place_in ltb k (keys_of h.second))
      → (is_err sought ≡ true → length m < room) → Apart In' room r (put k f m)
