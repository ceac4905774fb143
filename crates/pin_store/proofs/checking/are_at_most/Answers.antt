use Rattle.std.proofs.Common.{◌≡◌, ◌<◌, ◌≤◌, ℕ, refl, slice_index, sym, ◌∙◌, true≢false, below_more, arith, rules}
use Rattle.nvm_board.specs.Facts.{address}
use Rattle.undo_journal.specs.StoreCalls.{OnlyReads}
use Rattle.undo_journal.specs.Memory.{Memory, committed, current}
use Rattle.undo_journal.specs.laws.Calls.{reads_same, reads_then}
use Rattle.undo_journal.specs.laws.Told.{reads_handed, reads_on, reads_so_far}
use Rattle.card_model.specs.declared.pins.TheConstants.{PINS}
use Rattle.pin_store.specs.Pages.{pin_page, pin_word}
use Rattle.pin_store.proofs.checking.are_at_most.Goals as goal

-- the word that was read is that of the PIN's page
read-word : (a b : Memory) (pin place at word : ℕ) → OnlyReads a b → committed b ≡ current b
    → at ≡ address (pin_page pin) place → word ≡ slice_index (current b) at → word ≡ pin_word (committed a) pin place
read-word a b pin place at word reads same is read =
    let words : current b ≡ committed a = sym same ∙ reads.keeps.committed_words in
    read ∙ (λ i. slice_index (words i) (is i))

pub loop-pin-init : goal.loop-pin-init
loop-pin-init g c = record {
  ready = c.requires.ready;
  reads = reads_same _;
  so_far = λ pin none. absurd (omega (arith, none));
}

pub loop-pin-preserved : goal.loop-pin-preserved
loop-pin-preserved g c =
    let m = committed c.args.store.now in
    let word = read-word c.args.store.now c.loop-pin.store c.loop-pin.pin c.args.place _ _ c.loop-pin.invariant.reads
    c.loop-pin.invariant.ready.same c.word_address.ensures c.in_ok-word.ensures.word in
    let here : pin_word m c.loop-pin.pin c.args.place ≤ c.args.most = omega (arith, word, c.if-word-most.false) in
    record {
      ready = (c.in_ok-word.ensures.store c.loop-pin.invariant.ready.idle).ready;
      reads = reads_then _ _ _ c.loop-pin.invariant.reads c.read.ensures.reads;
      so_far = below_more (λ (pin : ℕ). pin_word m pin c.args.place ≤ c.args.most) c.loop-pin.pin
          c.loop-pin.invariant.so_far here;
    }

pub returns-in_err-word : goal.returns-in_err-word
returns-in_err-word g c = record {
  told = search rules;
  store = reads_handed _ _ _ _ c.from_residual.ensures.1 (reads_on _ _ _ _ c.loop-pin.invariant.reads
      (c.in_err-word.ensures.store c.loop-pin.invariant.ready.idle));
}

pub returns-then-word-most : goal.returns-then-word-most
returns-then-word-most g c =
    let small : c.loop-pin.pin < PINS = omega (arith, c.loop-pin-test.true) in
    let word = read-word c.args.store.now c.loop-pin.store c.loop-pin.pin c.args.place _ _ c.loop-pin.invariant.reads
    c.loop-pin.invariant.ready.same c.word_address.ensures c.in_ok-word.ensures.word in record {
      told = (
        λ no. absurd (true≢false (sym no)),
        λ all. let few = all.each c.loop-pin.pin small in absurd (omega (arith, word, few, c.if-word-most.true)),
      );
      store = reads_on _ _ _ _ c.loop-pin.invariant.reads
          (c.in_ok-word.ensures.store c.loop-pin.invariant.ready.idle);
    }

pub returns : goal.returns
returns g c = record {
  told = (
    λ _. record {
      each = λ pin small. let below : pin < c.loop-pin.pin = omega (arith, small, c.loop-pin-test.false) in
          c.loop-pin.invariant.so_far pin below;
    },
    λ _. refl,
  );
  store = reads_so_far _ _ c.loop-pin.invariant.reads c.loop-pin.invariant.ready;
}
