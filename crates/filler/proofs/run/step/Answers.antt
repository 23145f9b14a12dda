use native.Mathlib.Omega.{arith}
use Rattle.filler.proofs.Runs.{word_done, triple_done}
use Rattle.filler.proofs.run.step.Goals as goal

pub word_of-w-requires : goal.word_of-w-requires
word_of-w-requires c = (λ e. c.requires.sound.cell e, (λ n. let h = c.requires.sound.left n (λ e. let l = c.if-x-lt3.true in omega arith) in let r = c.requires.rooms.words_room in omega arith, λ n. let h = c.requires.sound.right n (λ e. let l = c.if-x-lt3.true in omega arith) in let r = c.requires.rooms.words_room in omega arith))

pub offset_bounds-words-place : goal.offset_bounds-words-place
offset_bounds-words-place c = let h = c.requires.sound.to in omega arith

pub bounds-words-place : goal.bounds-words-place
bounds-words-place c = let h = c.requires.sound.to in let r = c.requires.rooms.words_room in omega arith

pub triple_of-v-requires : goal.triple_of-v-requires
triple_of-v-requires c = (λ e. c.requires.sound.wide e, (λ n. let h = c.requires.sound.left (λ e. let l = c.if-x-lt3.false in omega arith) n in let r = c.requires.rooms.words_room in omega arith, (λ n. let h = c.requires.sound.left (λ e. let l = c.if-x-lt3.false in omega arith) n in let r = c.requires.rooms.triples_room in omega arith, λ n. let h = c.requires.sound.right (λ e. let l = c.if-x-lt3.false in omega arith) n in let r = c.requires.rooms.triples_room in omega arith)))

pub keep-requires : goal.keep-requires
keep-requires c = let h = c.requires.sound.to in let r = c.requires.rooms.triples_room in omega arith

pub returns-then-x-lt3 : goal.returns-then-x-lt3
returns-then-x-lt3 c = word_done c.args.x c.args.main.now c.args.aux.now c.args.words.now c.args.triples.now _ c.if-x-lt3.true c.word_of-w.ensures

pub returns-else-x-lt3 : goal.returns-else-x-lt3
returns-else-x-lt3 c = triple_done c.args.x c.args.main.now c.args.aux.now c.args.words.now c.args.triples.now _ _ c.if-x-lt3.false c.triple_of-v.ensures c.keep.ensures
