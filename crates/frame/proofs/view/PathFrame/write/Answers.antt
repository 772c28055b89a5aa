use Rattle.std.proofs.Common.{◌≡◌, ℕ, ◌<◌, ◌≤◌, List, ◌++◌, length, drop, sym, ap, ◌∙◌, arith}
use Rattle.frame.specs.declared.header.Header.{Header}
use Rattle.frame.specs.Layout.{frame_size_of}
use Rattle.frame.specs.Views.{path_of}
use Rattle.frame.proofs.Accepted.{path_sized}
use Rattle.frame.proofs.Again.{writes_nothing, writes_all}
use Rattle.frame.proofs.view.PathFrame.write.Goals as goal

-- the size of the frame, as its header tells it
sized : (bs : List ℕ) (h : Header) (k : ℕ) → length bs ≡ frame_size_of (path_of bs).header.samples (path_of bs).header.rows → h ≡ (path_of bs).header → k ≡ frame_size_of h.samples h.rows → k ≡ length bs
sized bs h k s e f = f ∙ ap (λ (x : Header). frame_size_of x.samples x.rows) e ∙ sym s

pub returns-then-out-size : goal.returns-then-out-size
returns-then-out-size c =
    let bs = c.args.self.now.bytes.now in
    let e = c.args.self.now.sound in
    let size = sized bs c.header.result c.frame_size-size.result (path_sized bs e) c.header.ensures c.frame_size-size.ensures in
    let short : length c.args.out.now < length bs = omega (arith, c.if-out-size.true, size) in
    writes_nothing bs c.args.out.now c.see_bytes.ensures e short

pub returns : goal.returns
returns c =
    let bs = c.args.self.now.bytes.now in
    let e = c.args.self.now.sound in
    let size = sized bs c.header.result c.frame_size-size.result (path_sized bs e) c.header.ensures c.frame_size-size.ensures in
    let long : length bs ≤ length c.args.out.now = omega (arith, c.if-out-size.false, size) in
    writes_all bs c.args.out.now c.see_bytes.ensures e c.put_body.new.out c.frame_size-size.result long size
    (c.put_body.ensures ∙ ap (λ (x : List ℕ). x ++ drop (length x) c.args.out.now) c.body.ensures.bytes)
