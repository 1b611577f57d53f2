-- What holds of each of the 21 letters holds of every letter.
use Rattle.catalogue.specs.Tree.{Letter, lv, lw, lb, lc, la, lh, ls, lt, li, lj, ll, lm, lx, ly, ln, lo, lf, ld, le, lg, lz}

pub every_letter : (P : Letter → Type 0)
    → P lv → P lw → P lb → P lc → P la → P lh → P ls → P lt → P li → P lj → P ll → P lm → P lx → P ly → P ln → P lo → P lf → P ld → P le → P lg → P lz
    → (l : Letter) → P l
every_letter P pv pw pb pc pa ph ps pt pi pj pl pm px py pn po pf pd pe pg pz lv = pv
every_letter P pv pw pb pc pa ph ps pt pi pj pl pm px py pn po pf pd pe pg pz lw = pw
every_letter P pv pw pb pc pa ph ps pt pi pj pl pm px py pn po pf pd pe pg pz lb = pb
every_letter P pv pw pb pc pa ph ps pt pi pj pl pm px py pn po pf pd pe pg pz lc = pc
every_letter P pv pw pb pc pa ph ps pt pi pj pl pm px py pn po pf pd pe pg pz la = pa
every_letter P pv pw pb pc pa ph ps pt pi pj pl pm px py pn po pf pd pe pg pz lh = ph
every_letter P pv pw pb pc pa ph ps pt pi pj pl pm px py pn po pf pd pe pg pz ls = ps
every_letter P pv pw pb pc pa ph ps pt pi pj pl pm px py pn po pf pd pe pg pz lt = pt
every_letter P pv pw pb pc pa ph ps pt pi pj pl pm px py pn po pf pd pe pg pz li = pi
every_letter P pv pw pb pc pa ph ps pt pi pj pl pm px py pn po pf pd pe pg pz lj = pj
every_letter P pv pw pb pc pa ph ps pt pi pj pl pm px py pn po pf pd pe pg pz ll = pl
every_letter P pv pw pb pc pa ph ps pt pi pj pl pm px py pn po pf pd pe pg pz lm = pm
every_letter P pv pw pb pc pa ph ps pt pi pj pl pm px py pn po pf pd pe pg pz lx = px
every_letter P pv pw pb pc pa ph ps pt pi pj pl pm px py pn po pf pd pe pg pz ly = py
every_letter P pv pw pb pc pa ph ps pt pi pj pl pm px py pn po pf pd pe pg pz ln = pn
every_letter P pv pw pb pc pa ph ps pt pi pj pl pm px py pn po pf pd pe pg pz lo = po
every_letter P pv pw pb pc pa ph ps pt pi pj pl pm px py pn po pf pd pe pg pz lf = pf
every_letter P pv pw pb pc pa ph ps pt pi pj pl pm px py pn po pf pd pe pg pz ld = pd
every_letter P pv pw pb pc pa ph ps pt pi pj pl pm px py pn po pf pd pe pg pz le = pe
every_letter P pv pw pb pc pa ph ps pt pi pj pl pm px py pn po pf pd pe pg pz lg = pg
every_letter P pv pw pb pc pa ph ps pt pi pj pl pm px py pn po pf pd pe pg pz lz = pz
