-- What the words of a command line ask for, word by word.
use Rattle.std.specs.Prelude.{◌≡◌, ◌≢◌, ◌≤◌, ◌&&◌, ℕ, Bool, true, false, List, [], ◌∷◌, codes, Option, None, Some}
use Rattle.std.specs.Prelude.{option_map, is_some}
use Rattle.std.specs.Str.Parse.{digits_value, without_leading_plus, IsNumeral}
use Rattle.std.specs.String.{string_bytes}
use Rattle.nvm_board.specs.declared.board.TheConstants.{LEAST_PAGES, MOST_PAGES}
use Rattle.card_files.specs.declared.options.Asked.{Asked}
use Rattle.card_files.specs.declared.options.Asked.TheVariants as asked
use Rattle.card_files.specs.declared.options.WordRole.{WordRole}
use Rattle.card_files.specs.declared.options.WordRole.TheVariants as next
use Rattle.card_files.specs.declared.page_count.PageCount.{PageCount}
use Rattle.card_files.specs.declared.options.Reading.{Reading}

-- The options that some words give, and the role of the next word.
pub record GivenOptions : Type 0 where
  pub path : Option (List ℕ)
  pub pages : Option ℕ
  pub sync : Bool
  pub known : Bool
  pub role : WordRole

-- the number of pages, if there is one
abbrev pub pages_number : Option PageCount → Option ℕ
pages_number pages = option_map (λ count. count.number) pages

-- the pages of a new card: as many as are given, or 1,024
abbrev pub new_card_pages : Option ℕ → ℕ
new_card_pages None = LEAST_PAGES
new_card_pages (Some number) = number

-- the options that were read so far
abbrev pub options_read : Reading → GivenOptions
options_read r = record {
  path = option_map string_bytes r.path;
  pages = pages_number r.pages;
  sync = r.sync;
  known = r.is_known;
  role = r.next;
}

-- no word was read yet
abbrev pub no_options : GivenOptions
no_options = record { path = None; pages = None; sync = false; known = true; role = next.Option }

-- a text is this number, in decimal, and a board can have as many pages
pub record IsPagesText (text : List ℕ) (number : ℕ) : Type 0 where
  pub numeral : IsNumeral 10 (without_leading_plus text)
  pub value : digits_value 10 (without_leading_plus text) ≡ number
  pub least : LEAST_PAGES ≤ number
  pub most : number ≤ MOST_PAGES

-- the number of pages in a text, or none if no board can have it
abbrev pub ArePagesOf : List ℕ → Option ℕ → Type 0
ArePagesOf text None = (number : ℕ) → IsPagesText text number → ⊥
ArePagesOf text (Some number) = IsPagesText text number

-- the effect of a word that names an option
pub record TakesOption (old : GivenOptions) (word : List ℕ) (new : GivenOptions) : Type 0 where
  pub card : word ≡ codes "--card" → new ≡ record old { role = next.Path }
  pub pages : word ≡ codes "--pages" → new ≡ record old { role = next.Pages }
  pub sync : word ≡ codes "--sync" → new ≡ record old { sync = true }
  pub other : word ≢ codes "--card" → word ≢ codes "--pages" → word ≢ codes "--sync"
      → new ≡ record old { known = false }

-- The effect of a word, by its role. A path may be any word, and a later option replaces an earlier one.
abbrev pub TakesRole : WordRole → GivenOptions → List ℕ → GivenOptions → Type 0
TakesRole next.Path old word new = new ≡ record old { path = Some word; role = next.Option }
TakesRole next.Pages old word new = (pages : Option ℕ) × ArePagesOf word pages
    × (new ≡ record old { pages = pages; known = old.known && is_some pages; role = next.Option })
TakesRole next.Option old word new = TakesOption old word new

-- the effect of the words, in order
unfoldable pub TakesWords : GivenOptions → List (List ℕ) → GivenOptions → Type 0
TakesWords old [] new = new ≡ old
TakesWords old (word ∷ words) new =
    (between : GivenOptions) × TakesRole old.role old word between × TakesWords between words new

-- What the options ask for. Without `--card` they ask for the factory card, whatever other texts there are. The program
-- refuses a word that is not UTF-8 before.
abbrev pub IsAskedBy : GivenOptions → Asked → Type 0
IsAskedBy given (asked.Card options) = (given.path ≡ Some (string_bytes options.path))
    × (given.pages ≡ pages_number options.pages) × (given.sync ≡ options.sync) × (given.known ≡ true)
    × (given.role ≡ next.Option)
IsAskedBy given asked.Factory = (given.path ≡ None) × (given.role ≢ next.Path)
IsAskedBy given asked.Unknown = (given.path ≡ None → given.role ≡ next.Path)
    × (given.path ≢ None → given.role ≡ next.Option → given.known ≡ false)
