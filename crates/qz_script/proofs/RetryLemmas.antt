-- Lines that are answered in turn, one more at a time.
use Rattle.std.proofs.Common.{◌≡◌, ◌⊎◌, ℕ, zero, suc, ◌+◌, ◌-◌, ◌^◌, ◌<◌, ◌≤◌, Bool, true, false, List, [], ◌∷◌, ◌++◌, filter, length, map, Some, refl, sym, ap, ◌∙◌, subst, inl, inr, append-nil, append_assoc, length-append, arith}
use Rattle.std.specs.Prelude.{flat_map, is_some, slice_get}
use Rattle.std.proofs.lemmas.List.Elements.{filter-append}
use Rattle.qz_grading.specs.declared.refusal.Refusal.TheVariants as refusal
use Rattle.qz_outside.specs.Causes.{HasRisen}
use Rattle.qz_terms.specs.declared.ask.Ask.{Ask}
use Rattle.qz_terms.specs.declared.reply.Done.{Done}
use Rattle.qz_terms.specs.declared.reply.Reply.{Reply}
use Rattle.qz_terms.specs.declared.reply.Reply.TheVariants as reply
use Rattle.qz_terms.specs.Serial.{Asking, Goes, Line, Lists, Serial, Unread, ended, next}
use Rattle.qz_script.specs.ScriptLines.{line_item}
use Rattle.qz_replies.specs.Replies.{reply_line}
use Rattle.qz_serial.specs.Once.{IsSaidAgain}
use Rattle.qz_serial.specs.Standing.{StandsIn, is_keep_fault}
use Rattle.qz_script.specs.Retries.{ActOnce, AllStand, GoesOnce, IsAccepted, Seen}
use Rattle.qz_script.specs.Scripts.{Answered, HasRisenBy}

-- ---- serial runs

serial-append : (a b c : Lists) (ls ks : List Line) (rs ts : List Reply) → Serial a ls rs b → Serial b ks ts c → Serial a (ls ++ ks) (rs ++ ts) c
serial-append a b c ls ks rs ts (ended d) more = more
serial-append a b c ls ks rs ts (next d m e i r is qs goes rest) more = next d m c i r (is ++ ks) (qs ++ ts) goes (serial-append m e c is ks qs ts rest more)

-- each line has its reply
serial-lengths : (a b : Lists) (ls : List Line) (rs : List Reply) → Serial a ls rs b → length ls ≡ length rs
serial-lengths a b ls rs (ended d) = refl
serial-lengths a b ls rs (next d m e i r is qs goes rest) = ap suc (serial-lengths m e is qs rest)

map-more : (front : List (List ℕ)) (line : List ℕ) → map line_item (front ++ line ∷ []) ≡ map line_item front ++ line_item line ∷ []
map-more [] line = refl
map-more (x ∷ xs) line = ap (λ (l : List Line). line_item x ∷ l) (map-more xs line)

said-more : (front : List Reply) (r : Reply) → flat_map reply_line (front ++ r ∷ []) ≡ flat_map reply_line front ++ reply_line r
said-more [] r = append-nil (reply_line r)
said-more (x ∷ xs) r = ap (λ (l : List ℕ). reply_line x ++ l) (said-more xs r) ∙ sym (append_assoc (reply_line x) (flat_map reply_line xs) (reply_line r))

-- ---- one more item

-- it stands at the end, and any other stood before
item-more : {A : Type 0} (xs : List A) (x : A) (n : ℕ) (y : A) → slice_get (xs ++ x ∷ []) n ≡ Some y → ((n < length xs) × (slice_get xs n ≡ Some y)) ⊎ ((n ≡ length xs) × (x ≡ y))
item-more [] x zero y is = inr (refl, cc)
item-more [] x (suc n) y is = absurd cc
item-more (z ∷ xs) x zero y is = inl (omega arith, is)
item-more (z ∷ xs) x (suc n) y is = elim (item-more xs x n y is) [ inl front ↦ inl (omega (arith, front.0), front.1) | inr end ↦ inr (ap suc end.0, end.1) ]

-- ---- what a line does

record IsOnce (b c : Seen) (i : Line) (r : Reply) : Type 0 where
  goes : Goes b.lists c.lists i r
  cause : r ≡ reply.Refused refusal.KeepFault → HasRisen b.faults c.faults
  later : b.faults ≤ c.faults
  stands : (now place : ℕ) (ask : Ask) (d : Done) → i ≡ Asking now ask → is_some ask.key ≡ true → r ≡ reply.Ok place d → StandsIn c.lists ask r
  stays : (x : Ask) (told : Reply) → StandsIn b.lists x told → StandsIn c.lists x told
  again : (now : ℕ) (ask : Ask) (told : Reply) → i ≡ Asking now ask → StandsIn b.lists ask told → IsSaidAgain told r

-- what has no reading is no fault of a keeper
not_unread : (place rule : ℕ) (r : Reply) → r ≡ reply.Refused (refusal.Malformed place rule) → r ≡ reply.Refused refusal.KeepFault → ⊥
not_unread place rule r is told = cc

once : (b c : Seen) (i : Line) (r : Reply) → GoesOnce b c i r → IsOnce b c i r
once b c (Unread place rule) r goes = record {
  goes = goes.0;
  cause = λ told. absurd (not_unread place rule r goes.0.0 told);
  later = omega (arith, goes.1);
  stands = λ now at ask d is keyed told. absurd cc;
  stays = λ x told stands. subst (λ (l : Lists). StandsIn l x told) (sym goes.0.1) stands;
  again = λ now ask told is stands. absurd cc;
}
once b c (Asking moment asked) r goes = record {
  goes = goes.once.asks;
  cause = goes.once.cause;
  later = goes.later;
  stands = λ now place ask d is keyed told. let same : asked ≡ ask = cc in subst (λ (x : Ask). StandsIn c.lists x r) same (goes.once.stands place d (subst (λ (x : Ask). is_some x.key ≡ true) (sym same) keyed) told);
  stays = goes.once.stays;
  again = λ now ask told is stands. let same : asked ≡ ask = cc in (goes.once.again told (subst (λ (x : Ask). StandsIn b.lists x told) (sym same) stands)).0;
}

-- ---- how often a keeper failed

fault_is : (r : Reply) → is_keep_fault r ≡ true → r ≡ reply.Refused refusal.KeepFault
fault_is (reply.Refused refusal.KeepFault) is = refl
fault_is r is = absurd cc

faults-one : (front : List Reply) (r : Reply) → is_keep_fault r ≡ true → length (filter is_keep_fault (front ++ r ∷ [])) ≡ length (filter is_keep_fault front) + 1
faults-one front r is = rw (filter-append is_keep_fault front (r ∷ []), is) (length-append (filter is_keep_fault front) (r ∷ []))

faults-none : (front : List Reply) (r : Reply) → is_keep_fault r ≡ false → length (filter is_keep_fault (front ++ r ∷ [])) ≡ length (filter is_keep_fault front)
faults-none front r is = rw (filter-append is_keep_fault front (r ∷ []), is) (ap (λ (l : List Reply). length l) (append-nil (filter is_keep_fault front)))

-- a count that rose by those before rises by one more
faults-more : (a b c : ℕ) (front : List Reply) (r : Reply) → HasRisenBy a (length (filter is_keep_fault front)) b → b ≤ c → (r ≡ reply.Refused refusal.KeepFault → HasRisen b c) → HasRisenBy a (length (filter is_keep_fault (front ++ r ∷ []))) c
faults-more a b c front r before later cause = λ below. by below (is_keep_fault r) refl
  where
    by : c < 2 ^ 64 - 1 → (t : Bool) → is_keep_fault r ≡ t → a + length (filter is_keep_fault (front ++ r ∷ [])) ≤ c
    by below true is = omega (arith, faults-one front r is, before (omega (arith, later, below)), cause (fault_is r is) below)
    by below false is = omega (arith, faults-none front r is, before (omega (arith, later, below)), later)

-- ---- one line more

-- the last line, accepted
record IsNew (items : List Line) (i : Line) (r : Reply) (n : ℕ) (ask : Ask) (told : Reply) : Type 0 where
  last : n ≡ length items
  now : ℕ
  place : ℕ
  done : Done
  line : i ≡ Asking now ask
  keyed : is_some ask.key ≡ true
  said : r ≡ told
  accepted : told ≡ reply.Ok place done

-- what was accepted was accepted before, or now
accepted-more : (items : List Line) (replies : List Reply) (i : Line) (r : Reply) (n : ℕ) (ask : Ask) (told : Reply) → length items ≡ length replies → IsAccepted (items ++ i ∷ []) (replies ++ r ∷ []) n ask told → IsAccepted items replies n ask told ⊎ IsNew items i r n ask told
accepted-more items replies i r n ask told lengths a = by (item-more items i n (Asking a.now ask) a.line) (item-more replies r n told a.reply)
  where
    by : ((n < length items) × (slice_get items n ≡ Some (Asking a.now ask))) ⊎ ((n ≡ length items) × (i ≡ Asking a.now ask)) → ((n < length replies) × (slice_get replies n ≡ Some told)) ⊎ ((n ≡ length replies) × (r ≡ told)) → IsAccepted items replies n ask told ⊎ IsNew items i r n ask told
    by (inl line) (inl said) = inl (record { now = a.now; place = a.place; done = a.done; line = line.1; keyed = a.keyed; accepted = a.accepted; reply = said.1 })
    by (inl line) (inr said) = absurd (omega (arith, line.0, said.0, lengths))
    by (inr line) (inl said) = absurd (omega (arith, line.0, said.0, lengths))
    by (inr line) (inr said) = inr (record { last = line.0; now = a.now; place = a.place; done = a.done; line = line.1; keyed = a.keyed; said = said.1; accepted = a.accepted })

stand-more : (b c : Seen) (items : List Line) (replies : List Reply) (i : Line) (r : Reply) → length items ≡ length replies → IsOnce b c i r → AllStand b.lists items replies → AllStand c.lists (items ++ i ∷ []) (replies ++ r ∷ [])
stand-more b c items replies i r lengths o before = record { stands = λ n ask told a. by n ask told (accepted-more items replies i r n ask told lengths a) }
  where
    by : (n : ℕ) (ask : Ask) (told : Reply) → IsAccepted items replies n ask told ⊎ IsNew items i r n ask told → StandsIn c.lists ask told
    by n ask told (inl old) = o.stays ask told (before.stands n ask told old)
    by n ask told (inr new) = subst (StandsIn c.lists ask) new.said (o.stands new.now new.place ask new.done new.line new.keyed (new.said ∙ new.accepted))

once-more : (b c : Seen) (items : List Line) (replies : List Reply) (i : Line) (r : Reply) → length items ≡ length replies → IsOnce b c i r → AllStand b.lists items replies → ActOnce items replies → ActOnce (items ++ i ∷ []) (replies ++ r ∷ [])
once-more b c items replies i r lengths o stand before =
    record { again = λ n m now ask told s earlier a line said. by n m now ask told s earlier (accepted-more items replies i r n ask told lengths a) (item-more items i m (Asking now ask) line) (item-more replies r m s said) }
  where
    by : (n m now : ℕ) (ask : Ask) (told s : Reply) → n < m → IsAccepted items replies n ask told ⊎ IsNew items i r n ask told → ((m < length items) × (slice_get items m ≡ Some (Asking now ask))) ⊎ ((m ≡ length items) × (i ≡ Asking now ask))
        → ((m < length replies) × (slice_get replies m ≡ Some s)) ⊎ ((m ≡ length replies) × (r ≡ s)) → IsSaidAgain told s
    by n m now ask told s earlier (inl old) (inl line) (inl said) = before.again n m now ask told s earlier old line.1 said.1
    by n m now ask told s earlier (inl old) (inl line) (inr said) = absurd (omega (arith, line.0, said.0, lengths))
    by n m now ask told s earlier (inl old) (inr line) (inl said) = absurd (omega (arith, line.0, said.0, lengths))
    by n m now ask told s earlier (inl old) (inr line) (inr said) = subst (IsSaidAgain told) said.1 (o.again now ask told line.1 (stand.stands n ask told old))
    by n m now ask told s earlier (inr new) (inl line) said = absurd (omega (arith, new.last, line.0, earlier))
    by n m now ask told s earlier (inr new) (inr line) said = absurd (omega (arith, new.last, line.0, earlier))

pub nothing_answered : (a : Seen) → Answered a a [] []
nothing_answered a = record {
  replies = [];
  serial = ended a.lists;
  said = refl;
  faults = λ below. omega arith;
  later = omega arith;
  once = record { again = λ n m now ask told r earlier a line said. absurd cc };
  stand = record { stands = λ n ask told a. let none = a.line in absurd cc };
}

pub one_more_answered : (a b c : Seen) (lines : List (List ℕ)) (line output : List ℕ) (r : Reply) → Answered a b lines output → GoesOnce b c (line_item line) r → Answered a c (lines ++ line ∷ []) (output ++ reply_line r)
one_more_answered a b c lines line output r before goes =
    let o = once b c (line_item line) r goes in
    let lengths = serial-lengths a.lists b.lists (map line_item lines) before.replies before.serial in
    record {
      replies = before.replies ++ r ∷ [];
      serial = rw (map-more lines line) (serial-append a.lists b.lists c.lists (map line_item lines) (line_item line ∷ []) before.replies (r ∷ []) before.serial (next b.lists c.lists c.lists (line_item line) r [] [] o.goes (ended c.lists)));
      said = ap (λ (l : List ℕ). l ++ reply_line r) before.said ∙ sym (said-more before.replies r);
      faults = faults-more a.faults b.faults c.faults before.replies r before.faults o.later o.cause;
      later = omega (arith, before.later, o.later);
      once = rw (map-more lines line) (once-more b c (map line_item lines) before.replies (line_item line) r lengths o before.stand before.once);
      stand = rw (map-more lines line) (stand-more b c (map line_item lines) before.replies (line_item line) r lengths o before.stand);
    }
