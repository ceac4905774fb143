-- Laws of the size of a memory.
use Rattle.std.specs.Prelude.{◌≡◌, ◌<◌, ◌≤◌, ◌+◌, ◌*◌, ◌/◌, ℕ, List, length}
use Rattle.std.proofs.Common.{arith, ap}
use Rattle.nvm_board.specs.declared.board.TheConstants.{PAGE_WORDS, LEAST_PAGES, MOST_PAGES}
use Rattle.nvm_board.specs.Facts.{IsMemory, address, pages_of}

-- a memory has at least so many words
pub least_words : (m : List ℕ) → IsMemory m → PAGE_WORDS * LEAST_PAGES ≤ length m
least_words m memory = omega (arith, memory.whole, memory.least)

-- as many words are as many pages
pub pages_same : (m after : List ℕ) → length after ≡ length m → pages_of after ≡ pages_of m
pages_same m after size = ap (λ (n : ℕ). n / PAGE_WORDS) size

-- as many words as a memory has are a memory
pub memory_same : (m after : List ℕ) → length after ≡ length m → IsMemory m → IsMemory after
memory_same m after size memory =
    let pages = pages_same m after size in
    record {
      whole = omega (arith, size, memory.whole, pages);
      least = omega (arith, memory.least, pages);
      most = omega (arith, memory.most, pages);
    }

-- the words of a page lie in the memory
pub page_within : (m : List ℕ) (page : ℕ) → IsMemory m → page < pages_of m → address page PAGE_WORDS ≤ length m
page_within m page memory below = omega (arith, memory.whole, below)

-- and a run that lies in the memory begins in one of its pages
pub page_of_run : (m : List ℕ) (page first some : ℕ) → IsMemory m → 0 < some
    → address page first + some ≤ length m → page < pages_of m
page_of_run m page first some memory any inside = omega (arith, memory.whole, any, inside)

-- as many words as so many pages have are a memory
pub memory_of_pages : (words : List ℕ) (pages : ℕ) → LEAST_PAGES ≤ pages → pages ≤ MOST_PAGES
    → length words ≡ PAGE_WORDS * pages → IsMemory words × (pages_of words ≡ pages)
memory_of_pages words pages least most size =
    let same : pages_of words ≡ pages = omega (arith, size) in (
      record {
        whole = omega (arith, size, same);
        least = omega (arith, least, same);
        most = omega (arith, most, same);
      },
      same,
    )
