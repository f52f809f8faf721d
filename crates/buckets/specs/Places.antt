-- How the entries lie in places. No public clause cites this module.
use Rattle.std.specs.Prelude.{◌≡◌, ◌≢◌, ◌⊎◌, ℕ, ◌+◌, ◌*◌, ◌/◌, ◌%◌, ◌<◌, ◌≤◌, min, List, [], ◌∷◌, ◌++◌, Bool, length, Option, Some, None, IsSomeAnd, slice_index_or}
use Rattle.std.specs.Bool.{OnTrue}
use Rattle.rows.specs.declared.Entry.{Entry}
use Rattle.rows.specs.Held.{value_at}

-- the entries of the places that have one
abbrev pub entries_in : List (Option Entry) → List Entry
entries_in [] = []
entries_in (None ∷ places) = entries_in places
entries_in (Some entry ∷ places) = entry ∷ entries_in places

-- the entries of the places, and those for which there was none
abbrev pub all_in : List (Option Entry) → List Entry → List Entry
all_in places overflow = entries_in places ++ overflow

-- a number of 24 bits in which all bits of a key have a part
unfoldable pub spread : ℕ → ℕ
spread key = key * 11400714819323198485 % 18446744073709551616 / 1099511627776

-- where the bucket of a key begins, of so many places
unfoldable pub bucket_of : ℕ → ℕ → ℕ
bucket_of count key = spread key * min (count / 8) 16777216 / 16777216 * 8

-- the place belongs to the bucket of the key, of so many places
pub record IsHome (count key place : ℕ) : Type 0 where
  pub from : bucket_of count key ≤ place
  pub to : place < bucket_of count key + 8

-- the entry stands at this place
abbrev pub HasAt : List (Option Entry) → ℕ → Entry → Type 0
HasAt places place entry = slice_index_or places place None ≡ Some entry

-- by these numbers the overflow is in order: entries of one bucket lie side by side
unfoldable pub number : ℕ → ℕ
number key = spread key * 18446744073709551616 + key

-- the entries of the overflow, which lie there by their numbers
abbrev pub plain_in : List Entry → List Entry
plain_in [] = []
plain_in (entry ∷ entries) =
    record { key = entry.key % 18446744073709551616; value = entry.value } ∷ plain_in entries

-- what lies there is the number of a key
abbrev pub AreNumbered : List Entry → Type 0
AreNumbered rows = (n : ℕ) → value_at rows n ≢ None → n ≡ number (n % 18446744073709551616)

-- at each place stands what stood there: what is new at the end is free
abbrev pub IsExtended : List (Option Entry) → List (Option Entry) → Type 0
IsExtended old new = (place : ℕ) → slice_index_or new place None
    ≡ slice_index_or old place None

-- an entry with the key stands at this place
abbrev pub HasKey : List (Option Entry) → ℕ → ℕ → Type 0
HasKey places key place = IsSomeAnd (slice_index_or places place None) (λ entry. entry.key ≡ key)

-- no place has the key
abbrev pub HasNowhere : List (Option Entry) → ℕ → Type 0
HasNowhere places key = (place : ℕ) (entry : Entry) → HasAt places place entry → entry.key ≢ key

-- each entry stands in the bucket of its key
abbrev pub AreHome : List (Option Entry) → Type 0
AreHome places = (place : ℕ) (entry : Entry) → HasAt places place entry
    → IsHome (length places) entry.key place

-- each key stands once
abbrev pub AreApart : List (Option Entry) → Type 0
AreApart places = (i j : ℕ) (e f : Entry) → HasAt places i e → HasAt places j f
    → e.key ≡ f.key → i ≡ j

-- in each bucket, no entry stands behind a free place
abbrev pub AreInFront : List (Option Entry) → Type 0
AreInFront places = (i j : ℕ) → i < j → i / 8 ≡ j / 8 → slice_index_or places i None ≡ None
    → slice_index_or places j None ≡ None

-- each entry stands in the bucket of its key, in front of the free places there, and each key once, whether in a
-- place or in the overflow
pub record AreSound (places : List (Option Entry)) (overflow : List Entry) : Type 0 where
  pub home : AreHome places
  pub front : AreInFront places
  pub apart : AreApart places
  pub once : (place : ℕ) (entry : Entry) → HasAt places place entry
      → value_at overflow entry.key ≡ None

-- the place is free, and belongs to the bucket of the key
pub record IsFreeFor (places : List (Option Entry)) (key place : ℕ) : Type 0 where
  pub in_range : place < length places
  pub free : slice_index_or places place None ≡ None
  pub home : IsHome (length places) key place

-- the place is free for the key, and each place before it in the bucket has an entry
pub record IsNextFor (places : List (Option Entry)) (key place : ℕ) : Type 0 where
  pub vacant : IsFreeFor places key place
  pub taken : (k : ℕ) → k < place → k / 8 ≡ place / 8 → slice_index_or places k None ≢ None

-- the place has the key, or is free where no place has it
abbrev pub EndsSearch : List (Option Entry) → ℕ → ℕ → Type 0
EndsSearch places key place = HasKey places key place
    ⊎ (IsFreeFor places key place × HasNowhere places key)

-- no place is free for the key
abbrev pub IsFull : List (Option Entry) → ℕ → Type 0
IsFull places key = (place : ℕ) → place < length places → IsHome (length places) key place
    → slice_index_or places place None ≢ None

-- each entry of the overflow has a full bucket
abbrev pub ArePacked : List (Option Entry) → List Entry → Type 0
ArePacked places overflow = (key place : ℕ) → IsFreeFor places key place
    → value_at overflow key ≡ None

-- they would be so if this place had an entry
abbrev pub ArePackedBut : List (Option Entry) → List Entry → ℕ → Type 0
ArePackedBut places overflow hole = (key place : ℕ) → place ≢ hole → IsFreeFor places key place
    → value_at overflow key ≡ None

-- what a map of keys to slots keeps
pub record AreKept (places : List (Option Entry)) (overflow : List Entry)
    (are_packed : Bool) : Type 0 where
  pub sound : AreSound places overflow
  pub packed : OnTrue are_packed (ArePacked places overflow)

-- no place was freed, and no key came into the overflow
pub record IsFilled (old new : List (Option Entry)) (before after : List Entry) : Type 0 where
  pub free : (key place : ℕ) → IsFreeFor new key place → IsFreeFor old key place
  pub fewer : (key : ℕ) → value_at before key ≡ None → value_at after key ≡ None

-- the key is the first one of the overflow whose number isn't below this one
pub record IsNext (overflow : List Entry) (from key : ℕ) : Type 0 where
  pub there : value_at overflow key ≢ None
  pub in_order : from ≤ number key
  pub side : (other : ℕ) → value_at overflow other ≢ None → from ≤ number other
      → spread key ≤ spread other
  pub least : (other : ℕ) → value_at overflow other ≢ None → from ≤ number other → other ≢ key
      → number key < number other

-- the overflow has no number from this one on
abbrev pub IsPast : List Entry → ℕ → Type 0
IsPast overflow from = (key : ℕ) → value_at overflow key ≢ None → number key < from

-- the place has this now, and each other what it had
pub record IsSetTo (old new : List (Option Entry)) (place : ℕ) (value : Option Entry) : Type 0 where
  pub same_length : length new ≡ length old
  pub there : slice_index_or new place None ≡ value
  pub others : (k : ℕ) → k ≢ place → slice_index_or new k None ≡ slice_index_or old k None

-- the entry of the place is gone, and that of the last place of its bucket stands there, unless it is the last itself
pub record IsClosed (old new : List (Option Entry)) (place last : ℕ) : Type 0 where
  pub same_length : length new ≡ length old
  pub gone : slice_index_or new last None ≡ None
  pub moved : place ≢ last → slice_index_or new place None ≡ slice_index_or old last None
  pub others : (k : ℕ) → k ≢ place → k ≢ last
      → slice_index_or new k None ≡ slice_index_or old k None

-- the entry of a place, if it has one, stands now in the first free place of its bucket
abbrev pub IsCopied : Option Entry → List (Option Entry) → List (Option Entry) → Type 0
IsCopied None old new = new ≡ old
IsCopied (Some entry) old new = (place : ℕ) × IsNextFor old entry.key place
    × IsSetTo old new place (Some entry)

-- the entries of so many of the old places stand in the new ones, each in its bucket, and no others
pub record IsMoved (old : List (Option Entry)) (count : ℕ)
    (new : List (Option Entry)) : Type 0 where
  pub sound : AreSound new []
  pub to : (place : ℕ) (entry : Entry) → place < count → HasAt old place entry
      → (k : ℕ) × HasAt new k entry
  pub from : (place : ℕ) (entry : Entry) → HasAt new place entry
      → (k : ℕ) × (k < count) × HasAt old k entry

-- the same entries stand in the new places, each in its bucket
abbrev pub HaveSame : List (Option Entry) → List (Option Entry) → Type 0
HaveSame old new = IsMoved old (length old) new
