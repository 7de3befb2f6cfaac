-- What was written and received for one C-STORE is its request and its response (`stored`), and so for one C-ECHO
-- (`echoed_if`); the front of a file and what was read after it are the file that was handed over (`responds`). Stands on
-- the definitions alone.
use Rattle.std.proofs.Common.{◌≡◌, ◌+◌, ℕ, Bool, true, List, [], ◌++◌, length, Result, Ok, Err, IfOk, refl, sym, ◌∙◌, ap₂, subst, append_assoc}
use Rattle.pdu.specs.declared.head.PduHead.{PduHead}
use Rattle.part10.specs.MetaText.{MetaValues, SpellsMeta}
use Rattle.pdu.specs.Texts.{data_text}
use Rattle.pdu.specs.Heads.{pdu_head_of, pdv_head_of}
use Rattle.pdu.specs.Types.{p_data_tf}
use Rattle.dimse.specs.Command.{c_echo, c_store}
use Rattle.dimse.specs.Reply.{response}
use Rattle.sending.specs.Sending.{Echoes, IsResponseSet, Receives, SendsData, Stores, echo_set, store_set}
use Rattle.sending.specs.Handing.{HandState, IsAnsweredBy}
use Rattle.sending.specs.declared.removing.NameCall.{NameCall}

pub stored : (context message status : ℕ) (class instance first read0 read written0 written1 written2 received0 received : List ℕ)
    → written1 ≡ written0 ++ data_text context true true (store_set class instance message)
    → SendsData context first read0 read written1 written2
    → Receives (c_store + response) context message status received0 received
    → Stores class instance first read0 read written0 written2 received0 received status
stored context message status class instance first read0 read written0 written1 written2 received0 received w d r = record {
  more = d.more;
  sent = data_text context true true (store_set class instance message) ++ d.sets;
  bytes = r.bytes;
  taken = d.taken;
  wrote = rw (d.sent, w) (append_assoc written0 (data_text context true true (store_set class instance message)) d.sets);
  got = r.got;
  answered = record {
    context = context;
    message = message;
    commands = data_text context true true (store_set class instance message);
    sets = d.sets;
    whole = refl;
    command = record { parts = []; last = store_set class instance message; whole = refl; pdus = refl };
    set = d.fragments;
    response = r.response;
  };
}

-- the instance was sent, and answered if a response was received
pub stored_if : {E : Type 0} (r : Result ℕ E) (context message : ℕ) (class instance first read0 read written0 written1 written2 received0 received : List ℕ)
    → written1 ≡ written0 ++ data_text context true true (store_set class instance message)
    → SendsData context first read0 read written1 written2
    → IfOk r (λ status. Receives (c_store + response) context message status received0 received)
    → IfOk r (λ status. Stores class instance first read0 read written0 written2 received0 received status)
stored_if (Err e) context message class instance first read0 read written0 written1 written2 received0 received w d h = h
stored_if (Ok status) context message class instance first read0 read written0 written1 written2 received0 received w d h =
    stored context message status class instance first read0 read written0 written1 written2 received0 received w d h

-- a C-ECHO was sent, and answered if a response was received
pub echoed_if : {E : Type 0} (r : Result ℕ E) (context message : ℕ) (written0 written received0 received : List ℕ)
    → written ≡ written0 ++ data_text context true true (echo_set message)
    → IfOk r (λ status. Receives (c_echo + response) context message status received0 received)
    → IfOk r (λ status. Echoes written0 written received0 received status)
echoed_if (Err e) context message written0 written received0 received w h = h
echoed_if (Ok status) context message written0 written received0 received w h = record { context = context; message = message; sent = w; answered = h }

abbrev state : List NameCall → (written read : List ℕ) → List Bool → HandState
state calls written read accepted = record { calls = calls; written = written; read = read; accepted = accepted }

pub responds : (statuses : ℕ → Bool) (said : MetaValues) (header first read0 read written0 written received0 received : List ℕ) (status : ℕ)
    (calls0 calls : List NameCall) (accepted0 accepted : List Bool)
    → SpellsMeta said header
    → read0 ≡ header ++ first
    → Stores said.class said.instance first read0 read written0 written received0 received status
    → statuses status ≡ true
    → IsAnsweredBy statuses read (state calls0 written0 received0 accepted0) (state calls written received accepted)
responds statuses said header first read0 read written0 written received0 received status calls0 calls accepted0 accepted spelled begun s f = record {
  sent = s.sent;
  received = s.bytes;
  status = status;
  written = s.wrote;
  read = s.got;
  answered = f;
  over = record {
    said = said;
    header = header;
    content = first ++ s.more;
    whole = rw (s.taken, begun) (append_assoc header first s.more);
    spelled = spelled;
    answered = s.answered;
  };
}

-- a response that was received in three parts
pub received_three : (answer context message status : ℕ) (r0 r1 r2 head pdv set r3 : List ℕ)
    → r1 ≡ r0 ++ head
    → r2 ≡ r1 ++ pdv
    → r3 ≡ r2 ++ set
    → pdu_head_of head ≡ record { kind = p_data_tf; length = length set + 6 }
    → pdv_head_of pdv ≡ record { length = length set + 2; context = context; command = true; last = true }
    → IsResponseSet answer set message status
    → Receives answer context message status r0 r3
received_three answer context message status r0 r1 r2 head pdv set r3 e1 e2 e3 a b s = record {
  bytes = head ++ (pdv ++ set);
  got = rw (e3, e2, e1) (simp append_assoc);
  response = record { head = head; pdv = pdv; set = set; whole = refl; of_pdu = a; of_pdv = b; says = s };
}

-- the value of a result that is `Ok`
pub ok_at : {A E : Type 0} (r : Result A E) (a : A) (P : A → Type 0) → r ≡ Ok a → IfOk r P → P a
ok_at (Err e) a P same h = absurd cc
ok_at (Ok b) a P same h = let one : b ≡ a = cc in subst P one h

abbrev head_with : ℕ → ℕ → PduHead
head_with kind length = record { kind = kind; length = length }

pub head_is : (b : List ℕ) (h : PduHead) (n : ℕ) → h ≡ pdu_head_of b → h.kind ≡ p_data_tf → h.length ≡ n + 6 → pdu_head_of b ≡ record { kind = p_data_tf; length = n + 6 }
head_is b h n e k l = sym e ∙ ap₂ head_with k l
